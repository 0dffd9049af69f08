-- An exported call is the layer's step in numbers, the exported list the layer's list, and the exported join the layer's join. Assumes nothing.
use Rattle.std.specs.Prelude.{◌≡◌, ◌&&◌}
use Rattle.state.proofs.Prelude.{refl, sym, ap, ap₂, ◌∙◌, Bool, true, false, List, ℕ, when, unless, Arena, Reply, Settings, World, Outcome, size_of, world_of, Leaves, sound, Query, Call, query, rules, step}
use Rattle.layer.specs.declared.JoinReply.{JoinReply}
use Rattle.layer.specs.World.{reply_in}
use Rattle.layer.specs.Listing.{Items, ListOutcome, release_list, LeavesList}
use Rattle.layer.specs.Joining.{JoinOutcome, join, LeavesBoth}
use Rattle.layer.proofs.Tools.{by-not}
use Rattle.surface.specs.declared.StateNumbers.{StateNumbers}
use Rattle.surface.specs.declared.told.SettingsNumbers.{SettingsNumbers}
use Rattle.surface.specs.Numbers.{state_of, numbers_of, is_state}
use Rattle.surface.specs.Told.{settings_of}
use Rattle.surface.specs.Replies.{answer_numbers, broken_numbers, reply_of, Left, in_numbers, step_numbers, LeavesNumbers}
use Rattle.surface.specs.Lists.{LeftList, list_in_numbers, list_numbers, LeavesListNumbers}
use Rattle.surface.specs.Joins.{join_answer_numbers, broken_join, join_reply_of, LeftBoth, both_in_numbers, join_numbers, LeavesBothNumbers}
use Rattle.surface.proofs.NumberLaws.{state-written}

module _ (l : List Arena) (stamps : List ℕ) (f : StateNumbers) (ns : ℕ) (s : SettingsNumbers) (call : Call) where
  -- the layer's step
  abbrev stepped : Outcome
  stepped = step (world_of l stamps (state_of f)) ns (settings_of s) call

  a-state : is_state f ≡ true → step_numbers l stamps f ns s call ≡ in_numbers stepped
  unfolding step_numbers
  a-state e = when (is_state f) _ _ e

  none : is_state f ≡ false → step_numbers l stamps f ns s call ≡ record { reply = broken_numbers f; records = l; stamps = stamps }
  unfolding step_numbers
  none e = unless (is_state f) _ _ e

  -- what an entry point leaves, in numbers
  pub exports : is_state f ≡ true → (r : Reply) (zs : List Arena) (ts : List ℕ) → Leaves stepped r zs ts → LeavesNumbers (step_numbers l stamps f ns s call) (reply_of r) zs ts
  unfolding reply_of
  exports e r zs ts h =
      let d : in_numbers stepped ≡ step_numbers l stamps f ns s call = sym (a-state e) in (
        ap (λ (x : Reply). answer_numbers x.answer (numbers_of x.state)) h.0 ∙ ap (λ (o : Left). o.reply) d,
        h.1 ∙ ap (λ (o : Left). o.records) d,
        h.2 ∙ ap (λ (o : Left). o.stamps) d,
      )

  -- numbers that are no state's: 1, and all is left
  pub refuses : is_state f ≡ false → LeavesNumbers (step_numbers l stamps f ns s call) (broken_numbers f) l stamps
  refuses e =
      let d : record { reply = broken_numbers f; records = l; stamps = stamps } ≡ step_numbers l stamps f ns s call = sym (none e) in
      (ap (λ (o : Left). o.reply) d, ap (λ (o : Left). o.records) d, ap (λ (o : Left). o.stamps) d)

-- a query leaves the state
query-leaves : (w : World) (ns : ℕ) (settings : Settings) (c : Query) → (step w ns settings (query c)).world.state ≡ w.state
unfolding rules
query-leaves w ns settings c =
    by-not (λ (o : Outcome). o.world.state ≡ w.state) (sound (size_of w.state) w settings.page) _ _ (λ _. refl) (λ _. refl)

-- and so the numbers that came
pub query_numbers : (l : List Arena) (stamps : List ℕ) (f : StateNumbers) (ns : ℕ) (settings : Settings) (c : Query) → is_state f ≡ true
    → numbers_of (step (world_of l stamps (state_of f)) ns settings (query c)).world.state ≡ f
query_numbers l stamps f ns settings c e = ap numbers_of (query-leaves (world_of l stamps (state_of f)) ns settings c) ∙ state-written f e

module _ (l : List Arena) (stamps : List ℕ) (f : StateNumbers) (ns : ℕ) (s : SettingsNumbers) (c : Query) where
  abbrev asked : Outcome
  asked = stepped l stamps f ns s (query c)

  -- so a query's reply has the numbers that came
  pub answers : is_state f ≡ true → (r : Reply) → r ≡ reply_in asked → answer_numbers r.answer f ≡ (step_numbers l stamps f ns s (query c)).reply
  answers e r h =
      ap (λ (x : Reply). answer_numbers x.answer f) h
      ∙ ap (answer_numbers asked.answer) (sym (ap numbers_of (query-leaves (world_of l stamps (state_of f)) ns (settings_of s) c) ∙ state-written f e))
      ∙ ap (λ (o : Left). o.reply) (sym (a-state l stamps f ns s (query c) e))

-- ---- a list

module _ (l : List Arena) (stamps : List ℕ) (f : StateNumbers) (ns : ℕ) (s : SettingsNumbers) (t : Items) where
  -- the layer's list
  abbrev listed : ListOutcome
  listed = release_list (world_of l stamps (state_of f)) ns (settings_of s) t

  -- what the entry point leaves, in numbers
  pub lists : is_state f ≡ true → (r : Reply) (zs : List Arena) (ts given : List ℕ) → LeavesList listed r zs ts given → LeavesListNumbers (list_numbers l stamps f ns s t) (reply_of r) zs ts given
  unfolding list_numbers reply_of
  lists e r zs ts given h =
      let d : list_in_numbers listed ≡ list_numbers l stamps f ns s t = sym (when (is_state f) _ _ e) in (
        (
          ap (λ (x : Reply). answer_numbers x.answer (numbers_of x.state)) h.0.0 ∙ ap (λ (o : LeftList). o.whole.reply) d,
          h.0.1 ∙ ap (λ (o : LeftList). o.whole.records) d,
          h.0.2 ∙ ap (λ (o : LeftList). o.whole.stamps) d,
        ),
        h.1 ∙ ap (λ (o : LeftList). o.numbers) d,
      )

  -- numbers that are no state's: 1, and all is left
  pub list-refuses : is_state f ≡ false → LeavesListNumbers (list_numbers l stamps f ns s t) (broken_numbers f) l stamps t.answers
  unfolding list_numbers
  list-refuses e =
      let d : record { whole = record { reply = broken_numbers f; records = l; stamps = stamps }; numbers = t.answers } ≡ list_numbers l stamps f ns s t = sym (unless (is_state f) _ _ e) in
      ((ap (λ (o : LeftList). o.whole.reply) d, ap (λ (o : LeftList). o.whole.records) d, ap (λ (o : LeftList). o.whole.stamps) d), ap (λ (o : LeftList). o.numbers) d)

-- ---- a join

module _ (l : List Arena) (stamps : List ℕ) (m : List Arena) (second-stamps : List ℕ) (f g : StateNumbers) (ns : ℕ) (s : SettingsNumbers) where
  -- the layer's join
  abbrev joined : JoinOutcome
  joined = join (world_of l stamps (state_of f)) (world_of m second-stamps (state_of g)) ns (settings_of s)

  abbrev as-it-came : LeftBoth
  as-it-came = record { reply = broken_join f g; records = l; stamps = stamps; second-records = m; second-stamps = second-stamps }

  leaves : (o : LeftBoth) → o ≡ join_numbers l stamps m second-stamps f g ns s
      → LeavesBothNumbers (join_numbers l stamps m second-stamps f g ns s) o.reply o.records o.stamps o.second-records o.second-stamps
  leaves o d = (
    ap (λ (x : LeftBoth). x.reply) d,
    ap (λ (x : LeftBoth). x.records) d,
    ap (λ (x : LeftBoth). x.stamps) d,
    ap (λ (x : LeftBoth). x.second-records) d,
    ap (λ (x : LeftBoth). x.second-stamps) d,
  )

  -- what the entry point leaves, in numbers
  pub joins : is_state f ≡ true → is_state g ≡ true → (r : JoinReply) (zs : List Arena) (ts : List ℕ) (ys : List Arena) (us : List ℕ) → LeavesBoth joined r zs ts ys us
      → LeavesBothNumbers (join_numbers l stamps m second-stamps f g ns s) (join_reply_of r) zs ts ys us
  unfolding join_numbers join_reply_of
  joins d e r zs ts ys us h =
      let a = leaves (both_in_numbers joined) (sym (when (is_state f && is_state g) _ _ (ap₂ (λ (x y : Bool). x && y) d e))) in (
        ap (λ (x : JoinReply). join_answer_numbers x.answer (numbers_of x.first) (numbers_of x.second)) h.0 ∙ a.0,
        h.1 ∙ a.1,
        h.2 ∙ a.2,
        h.3 ∙ a.3,
        h.4 ∙ a.4,
      )

  -- numbers that are no state's, on either side: 1, and all is left
  no-states : (is_state f && is_state g) ≡ false → LeavesBothNumbers (join_numbers l stamps m second-stamps f g ns s) (broken_join f g) l stamps m second-stamps
  unfolding join_numbers
  no-states e = leaves as-it-came (sym (unless (is_state f && is_state g) _ _ e))

  pub first-refuses : is_state f ≡ false → LeavesBothNumbers (join_numbers l stamps m second-stamps f g ns s) (broken_join f g) l stamps m second-stamps
  first-refuses e = no-states (ap (λ (x : Bool). x && is_state g) e)

  pub second-refuses : is_state f ≡ true → is_state g ≡ false → LeavesBothNumbers (join_numbers l stamps m second-stamps f g ns s) (broken_join f g) l stamps m second-stamps
  second-refuses d e = no-states (ap₂ (λ (x y : Bool). x && y) d e)
