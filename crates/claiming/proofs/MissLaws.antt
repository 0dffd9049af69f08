-- A miss, case by case: which test decides. Assumes nothing.
use Rattle.std.specs.Prelude.{◌≡◌, ◌&&◌}
use Rattle.state.proofs.Prelude.{sym, ◌∙◌, Bool, true, false, not, ℕ, leb, ℤ, NoRun, Settings, Claim, turn_down, calm, too_large, ask_memory, is_negative, miss_reply, when, unless}

module _ (S k : ℕ) (mark : Bool) (id : ℤ) (n : ℕ) (commits : Bool) (settings : Settings) where
  pub miss-plain : is_negative id && (leb S settings.reserve && not mark) ≡ false → turn_down NoRun (calm k mark) ≡ miss_reply S k mark id n commits settings
  unfolding miss_reply
  miss-plain e = sym (unless _ _ _ e)

  module _ (may : is_negative id && (leb S settings.reserve && not mark) ≡ true) where
    pub miss-gives-up : too_large S settings.reserve ≡ true → turn_down NoRun (calm k true) ≡ miss_reply S k mark id n commits settings
    unfolding miss_reply
    miss-gives-up e = sym (when _ _ _ may ∙ when _ _ _ e)

    pub miss-asks : too_large S settings.reserve ≡ false
        → ask_memory S k mark settings.reserve settings.page false false false (Claim n commits) ≡ miss_reply S k mark id n commits settings
    unfolding miss_reply
    miss-asks e = sym (when _ _ _ may ∙ unless _ _ _ e)
