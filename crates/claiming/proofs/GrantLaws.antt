-- A grant's replies and records are the definition's. Assumes nothing.
use Rattle.std.specs.Prelude.{◌≡◌, ◌&&◌, ◌⊎◌, ◌+◌, ◌*◌}
use Rattle.state.proofs.Prelude.{sym, ap, ap₂, Bool, true, false, not, List, ⊎_elim, ℕ, set, when, unless, Arena, run_committed, run_fresh, State, AskCommit, Asks, Claimed, Committing, state_with, reply, calm, grant_arena, grant_reply}
use Rattle.arena.specs.Claiming.{take_run, dirty_run}
use Rattle.layer.specs.Claiming.{asks_commit}

module _ (S : ℕ) (state : State) (i : ℕ) (a : Arena) (s n : ℕ) (commits : Bool) (l : List Arena) where
  -- the commit is asked for
  pub asks : commits ≡ true → run_committed a s n ≡ false
      → (reply (Asks (AskCommit (a.base + s * S) (n * S))) (state_with state.count state.mark (Committing i s n)) ≡ grant_reply S state.count state.mark i a s n commits)
      × (set l i (take_run a s n) ≡ set l i (grant_arena a s n commits))
  unfolding grant_reply grant_arena asks_commit
  asks e f = let g : (commits && not (run_committed a s n)) ≡ true = ap₂ ◌&&◌ e (ap not f) in (sym (when _ _ _ g), ap (set l i) (sym (when _ _ _ g)))

  uncalled : (commits ≡ true × run_committed a s n ≡ true) ⊎ (commits ≡ false) → (commits && not (run_committed a s n)) ≡ false
  uncalled h =
      ⊎_elim
      (λ (p : commits ≡ true × run_committed a s n ≡ true). ap₂ ◌&&◌ p.0 (ap not p.1))
      (λ (e : commits ≡ false). ap (λ (b : Bool). b && not (run_committed a s n)) e) h

  -- the run is granted
  pub grants : (commits ≡ true × run_committed a s n ≡ true) ⊎ (commits ≡ false)
      → (reply (Claimed (a.base + s * S) (run_fresh a s n) (run_committed a s n)) (calm state.count state.mark) ≡ grant_reply S state.count state.mark i a s n commits)
      × (set l i (dirty_run (take_run a s n) s n) ≡ set l i (grant_arena a s n commits))
  unfolding grant_reply grant_arena asks_commit
  grants h = let e = uncalled h in (sym (unless _ _ _ e), ap (set l i) (sym (unless _ _ _ e)))
