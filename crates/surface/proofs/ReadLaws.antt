-- The laws of an exported call, list and join as the code of an export gives what they take: whether the numbers are a state's, the state and
-- the settings that are read from them, the entry point's reply, and its numbers. Assumes nothing.
use Rattle.std.specs.Prelude.{◌≡◌}
use Rattle.std.proofs.Math.Path.{subst₂}
use Rattle.state.proofs.Prelude.{sym, ◌∙◌, subst, Bool, true, false, List, ℕ, Arena, State, Reply, Settings, world_of, Leaves, Query, Call, query, step}
use Rattle.layer.specs.declared.JoinReply.{JoinReply}
use Rattle.layer.specs.World.{reply_in}
use Rattle.layer.specs.Listing.{Items, release_list, LeavesList}
use Rattle.layer.specs.Joining.{join, LeavesBoth}
use Rattle.surface.specs.declared.StateNumbers.{StateNumbers}
use Rattle.surface.specs.declared.told.SettingsNumbers.{SettingsNumbers}
use Rattle.surface.specs.declared.reply.ReplyNumbers.{ReplyNumbers}
use Rattle.surface.specs.declared.joins.JoinNumbers.{JoinNumbers}
use Rattle.surface.specs.Numbers.{state_of, is_state}
use Rattle.surface.specs.Told.{settings_of}
use Rattle.surface.specs.Replies.{answer_numbers, broken_numbers, reply_of, step_numbers, LeavesNumbers}
use Rattle.surface.specs.Lists.{list_numbers, LeavesListNumbers}
use Rattle.surface.specs.Joins.{broken_join, join_reply_of, join_numbers, LeavesBothNumbers}
use Rattle.surface.proofs.CallLaws.{exports, refuses, answers, lists, list-refuses, joins, first-refuses, second-refuses}

module _ (l : List Arena) (stamps : List ℕ) (f : StateNumbers) (ns : ℕ) (s : SettingsNumbers) (call : Call) where
  pub exports-read : {yes : Bool} {state : State} {settings : Settings} {r : Reply} {zs : List Arena} {ts : List ℕ} {g : ReplyNumbers}
      → yes ≡ is_state f → yes ≡ true → state ≡ state_of f → settings ≡ settings_of s
      → Leaves (step (world_of l stamps state) ns settings call) r zs ts → g ≡ reply_of r → LeavesNumbers (step_numbers l stamps f ns s call) g zs ts
  exports-read {r = r} {zs = zs} {ts = ts} d e a b h w =
      let k = exports l stamps f ns s call (sym d ∙ e) r zs ts (subst₂ (λ (x : State) (y : Settings). Leaves (step (world_of l stamps x) ns y call) r zs ts) a b h) in
      (w ∙ k.0, k.1, k.2)

  pub refuses-read : {yes : Bool} {g : ReplyNumbers} → yes ≡ is_state f → yes ≡ false → g ≡ broken_numbers f → LeavesNumbers (step_numbers l stamps f ns s call) g l stamps
  refuses-read d e w = let k = refuses l stamps f ns s call (sym d ∙ e) in (w ∙ k.0, k.1, k.2)

module _ (l : List Arena) (stamps : List ℕ) (f : StateNumbers) (ns : ℕ) (s : SettingsNumbers) (c : Query) where
  pub answers-read : {yes : Bool} {state : State} {settings : Settings} {r : Reply} {g : ReplyNumbers} → yes ≡ is_state f → yes ≡ true → state ≡ state_of f → settings ≡ settings_of s
      → r ≡ reply_in (step (world_of l stamps state) ns settings (query c)) → g ≡ answer_numbers r.answer f → g ≡ (step_numbers l stamps f ns s (query c)).reply
  answers-read {r = r} d e a b h w =
      w ∙ answers l stamps f ns s c (sym d ∙ e) r (subst₂ (λ (x : State) (z : Settings). r ≡ reply_in (step (world_of l stamps x) ns z (query c))) a b h)

module _ (l : List Arena) (stamps : List ℕ) (f : StateNumbers) (ns : ℕ) (s : SettingsNumbers) (t : Items) where
  pub lists-read : {yes : Bool} {state : State} {settings : Settings} {r : Reply} {zs : List Arena} {ts given : List ℕ} {g : ReplyNumbers}
      → yes ≡ is_state f → yes ≡ true → state ≡ state_of f → settings ≡ settings_of s
      → LeavesList (release_list (world_of l stamps state) ns settings t) r zs ts given → g ≡ reply_of r → LeavesListNumbers (list_numbers l stamps f ns s t) g zs ts given
  lists-read {r = r} {zs = zs} {ts = ts} {given = given} d e a b h w =
      let k =
      lists l stamps f ns s t (sym d ∙ e) r zs ts given (subst₂ (λ (x : State) (y : Settings). LeavesList (release_list (world_of l stamps x) ns y t) r zs ts given) a b h) in
      ((w ∙ k.0.0, k.0.1, k.0.2), k.1)

  pub list_refuses-read : {yes : Bool} {g : ReplyNumbers} → yes ≡ is_state f → yes ≡ false → g ≡ broken_numbers f → LeavesListNumbers (list_numbers l stamps f ns s t) g l stamps t.answers
  list_refuses-read d e w = let k = list-refuses l stamps f ns s t (sym d ∙ e) in ((w ∙ k.0.0, k.0.1, k.0.2), k.1)

module _ (l : List Arena) (stamps : List ℕ) (m : List Arena) (second-stamps : List ℕ) (f g : StateNumbers) (ns : ℕ) (s : SettingsNumbers) where
  pub joins-read : {yes also : Bool} {state second : State} {settings : Settings} {r : JoinReply} {zs : List Arena} {ts : List ℕ} {ys : List Arena} {us : List ℕ} {n : JoinNumbers}
      → yes ≡ is_state f → yes ≡ true → also ≡ is_state g → also ≡ true → state ≡ state_of f → second ≡ state_of g → settings ≡ settings_of s
      → LeavesBoth (join (world_of l stamps state) (world_of m second-stamps second) ns settings) r zs ts ys us → n ≡ join_reply_of r
      → LeavesBothNumbers (join_numbers l stamps m second-stamps f g ns s) n zs ts ys us
  joins-read {settings = settings} {r = r} {zs = zs} {ts = ts} {ys = ys} {us = us} d y e z a b c h w =
      let p = subst₂ (λ (u v : State). LeavesBoth (join (world_of l stamps u) (world_of m second-stamps v) ns settings) r zs ts ys us) a b h in
      let q = subst (λ (u : Settings). LeavesBoth (join (world_of l stamps (state_of f)) (world_of m second-stamps (state_of g)) ns u) r zs ts ys us) c p in
      let k = joins l stamps m second-stamps f g ns s (sym d ∙ y) (sym e ∙ z) r zs ts ys us q in
      (w ∙ k.0, k.1, k.2, k.3, k.4)

  pub first_refuses-read : {yes : Bool} {n : JoinNumbers} → yes ≡ is_state f → yes ≡ false → n ≡ broken_join f g
      → LeavesBothNumbers (join_numbers l stamps m second-stamps f g ns s) n l stamps m second-stamps
  first_refuses-read d y w = let k = first-refuses l stamps m second-stamps f g ns s (sym d ∙ y) in (w ∙ k.0, k.1, k.2, k.3, k.4)

  pub second_refuses-read : {yes also : Bool} {n : JoinNumbers} → yes ≡ is_state f → yes ≡ true → also ≡ is_state g → also ≡ false → n ≡ broken_join f g
      → LeavesBothNumbers (join_numbers l stamps m second-stamps f g ns s) n l stamps m second-stamps
  second_refuses-read d y e z w =
      let k = second-refuses l stamps m second-stamps f g ns s (sym d ∙ y) (sym e ∙ z) in (w ∙ k.0, k.1, k.2, k.3, k.4)
