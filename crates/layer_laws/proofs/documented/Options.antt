-- Options 23 and 27: the default reserve, and arenas off. Assumes nothing.
use Rattle.std.specs.Prelude.{◌≡◌, ◌&&◌, ◌↔◌, ◌+◌, ◌*◌, ◌/◌, ◌%◌, ◌^◌, ◌<◌, ◌≤◌}
use Rattle.layer.proofs.Prelude.{refl, sym, ap, ap₂, ◌∙◌, subst, Bool, true, false, cond, not, true≢false, List, ⊎_elim, ℕ, suc, suc-mul, mul-mod_left, div-add-mod', mul-le-mul_right, arith, eqb-true, leb-true, le-leb, eqb, leb, ℤ, pos, negsuc, Refusal, ArenasOff, by_cond, when, unless, lt-or-le, Option, Some, None, Starts, and_both, arena_allowed, Arena, is_on, free, find_run, never, found_inside, World, Outcome, outcome, at, is_some, sound, chunks_for, too_large, bytes_asked, ask_memory, eligible, serves, miss_reply, search_of, claim_of, claim, act, rules}
use Rattle.bitmap.proofs.runs.LowestLaws.{nothing-iff}
use Rattle.arena.proofs.Changes.{found-free}
use Rattle.layer.specs.declared.Settings.{Settings}
use Rattle.layer.specs.declared.Question.TheVariants.{Idle}
use Rattle.layer.specs.declared.Ask.{Ask}
use Rattle.layer.specs.declared.Ask.TheVariants.{AskMemory}
use Rattle.layer.specs.declared.Answer.TheVariants.{Refused, Asks}
use Rattle.layer.specs.declared.Reply.{Reply}
use Rattle.layer.proofs.Rules.{not-shared}
use Rattle.layer.proofs.Cases.{grant-cases, search-cases, miss-cases, claim-cases}
use Rattle.layer.proofs.Calls.{past-2, calm-world, act-cases}
use Rattle.layer_laws.specs.documented.Areas.{is_exclusive}
use Rattle.layer_laws.specs.documented.Options.{documented_reserve, HasRoom, NoneHasRoom, InChunks, AsksDefault, Disallowed}
use Rattle.layer.proofs.ChunkLaws.{up-enough, up-tight, up_least}

-- ---- a claim that rows 1, 2, 4 and 5 let pass searches

module _ (S : ℕ) (w : World) (ns : ℕ) (settings : Settings) (id : ℤ) (n : ℕ) (commits : Bool) (passed : sound S w settings.page ≡ true) (idle : w.state.question ≡ Idle) (some : n ≡ 0 → ⊥) where
  abbrev searches : Outcome
  searches = search_of S w.records w.stamps w.state.count w.state.mark id n commits (miss_reply S w.state.count w.state.mark id n commits settings)

  past-4 : rules S w ns settings (act (claim id n commits)) ≡ cond (not (arena_allowed settings.off id)) (outcome (Refused ArenasOff) w) searches
  unfolding claim_of
  past-4 =
      past-2 S w ns settings passed idle (claim id n commits) ∙ unless (eqb n 0) _ _ (never (eqb n 0) (λ e. some (eqb-true n 0 e)))
      ∙ ap (λ (v : World). cond (not (arena_allowed settings.off id)) (outcome (Refused ArenasOff) v) searches) (calm-world w idle)

-- ---- 27, disallow_arena_alloc

disallowed : (off : Bool) (id : ℤ) → Disallowed off id ↔ (arena_allowed off id ≡ false)
unfolding arena_allowed
disallowed true (pos i) = (λ h. absurd (h.1 i refl), λ e. absurd (true≢false e))
disallowed true (negsuc i) = (λ h. refl, λ e. (refl, λ j f. let z : ◌≡◌ {A = ℕ} 0 1 = cc in omega arith))
disallowed false id = (λ h. absurd (true≢false (sym h.0)), λ e. absurd (true≢false e))

-- a search is not refused with 5
search-not-off : (S : ℕ) (w : World) (settings : Settings) (id : ℤ) (n : ℕ) (commits : Bool)
    → (search_of S w.records w.stamps w.state.count w.state.mark id n commits (miss_reply S w.state.count w.state.mark id n commits settings)).answer ≡ Refused ArenasOff → ⊥
unfolding ask_memory
search-not-off S w settings id n commits =
    search-cases S w.records w.stamps w.state.count w.state.mark N id n commits _
    (λ h. miss-cases S w.records w.stamps w.state.count w.state.mark N id n commits settings (λ e. let z : ◌≡◌ {A = ℕ} 0 1 = cc in omega arith)
    (λ e. let z : ◌≡◌ {A = ℕ} 0 1 = cc in omega arith) (λ e. let z : ◌≡◌ {A = ℕ} 0 1 = cc in omega arith))
    (λ i h v. grant-cases S w.records w.stamps w.state.count w.state.mark N i n commits (λ g e. let z : ◌≡◌ {A = ℕ} 0 1 = cc in omega arith)
    (λ s g e. let z : ◌≡◌ {A = ℕ} 0 1 = cc in omega arith) (λ s g e. let z : ◌≡◌ {A = ℕ} 0 1 = cc in omega arith))
  where
    N : Outcome → Type 0
    N o = o.answer ≡ Refused ArenasOff → ⊥

-- of a claim that rows 1, 2 and 4 let pass
pub arenas-off : (S : ℕ) (w : World) (ns : ℕ) (settings : Settings) (id : ℤ) (n : ℕ) (commits : Bool) → sound S w settings.page ≡ true → w.state.question ≡ Idle → (n ≡ 0 → ⊥)
    → ((rules S w ns settings (act (claim id n commits))).answer ≡ Refused ArenasOff) ↔ Disallowed settings.off id
arenas-off S w ns settings id n commits passed idle some = (
  λ e. (disallowed settings.off id).1 (go (arena_allowed settings.off id) refl (sym (ap (λ (o : Outcome). o.answer) (past-4 S w ns settings id n commits passed idle some)) ∙ e)),
  λ h. ap (λ (o : Outcome). o.answer) (past-4 S w ns settings id n commits passed idle some ∙ when (not (arena_allowed settings.off id)) _ _ (ap not ((disallowed settings.off id).0 h))),
)
  where
    go : (b : Bool) → arena_allowed settings.off id ≡ b
        → (cond (not (arena_allowed settings.off id)) (outcome (Refused ArenasOff) w) (searches S w ns settings id n commits passed idle some)).answer ≡ Refused ArenasOff → b ≡ false
    go false f e = refl
    go true f e =
        absurd (search-not-off S w settings id n commits
        (sym (ap (λ (o : Outcome). o.answer) (unless (not (arena_allowed settings.off id)) (outcome (Refused ArenasOff) w) (searches S w ns settings id n commits passed idle some) (ap not f))) ∙ e))

-- ---- 23, arena_reserve

-- an arena serves a claim that names none where it is not exclusive and has room
has_room : (a : Arena) (n s : ℕ) → find_run a n ≡ Some s → HasRoom n a
has_room a n s e = (s, found_inside a n s e, found-free a n s e)

room-found : (a : Arena) (n : ℕ) → HasRoom n a → is_some (find_run a n) ≡ true
unfolding find_run
room-found a n r = go (find_run a n) refl
  where
    starts : Starts (free a) a.chunks n r.0
    starts = record { room = r.1; all-free = λ j u v. ap not (r.2 j u v) }

    go : (f : Option ℕ) → find_run a n ≡ f → is_some f ≡ true
    go (Some s) e = refl
    go None e = absurd ((nothing-iff (free a) a.chunks n).0 e r.0 starts)

serves-room : (x n : ℕ) (l : List Arena) (i : ℕ) → serves (negsuc x) n l i ≡ true → (is_exclusive (at l i) ≡ false) × HasRoom n (at l i)
unfolding serves
serves-room x n l i e = (never (is_on (at l i).exclusive) (λ f. not-shared x n l i i f e refl), go (find_run (at l i) n) refl)
  where
    go : (f : Option ℕ) → find_run (at l i) n ≡ f → HasRoom n (at l i)
    go (Some s) g = has_room (at l i) n s g
    go None g = absurd (true≢false (sym (and_both (eligible (negsuc x) i (at l i)) _ e).1 ∙ ap is_some g))

room-serves : (x n : ℕ) (l : List Arena) (i : ℕ) → is_exclusive (at l i) ≡ false → HasRoom n (at l i) → serves (negsuc x) n l i ≡ true
unfolding serves eligible
room-serves x n l i e r = ap₂ ◌&&◌ (ap not e) (room-found (at l i) n r)

-- the bytes in whole chunks are those that the layer reckons
in-chunks : (S : ℕ) → 0 < S → (size : ℕ) → InChunks S size (chunks_for S size * S)
in-chunks S some size = record { whole = mul-mod_left (chunks_for S size) S; enough = up-enough S some size; tight = up-tight S some size }

one_number : (S : ℕ) → 0 < S → (size many : ℕ) → InChunks S size many → chunks_for S size * S ≡ many
one_number S some size many c =
    let d : many / S * S + many % S ≡ many = div-add-mod' many S in
    let m : many / S * S ≡ many = omega (arith, c.whole) in
    let lo : chunks_for S size * S ≤ many / S * S = up_least S some size (many / S) (omega (arith, c.enough)) in
    ⊎_elim
    (λ (h : chunks_for S size < many / S).
    let u : suc (chunks_for S size) * S ≤ many / S * S = mul-le-mul_right S h in
    absurd (omega (arith, suc-mul (chunks_for S size) S, c.tight, up-enough S some size)))
    (λ (h : many / S ≤ chunks_for S size). let u : many / S * S ≤ chunks_for S size * S = mul-le-mul_right S h in omega arith)
    (lt-or-le (chunks_for S size) (many / S))

-- so many bytes are asked for, where the size is not 0
asked-bytes : (S size page : ℕ) → (size ≡ 0 → ⊥) → bytes_asked S size page ≡ chunks_for S size * S
unfolding bytes_asked
asked-bytes S size page h = unless (eqb size 0) _ _ (never (eqb size 0) (λ e. h (eqb-true size 0 e)))

-- the miss asks, where the mark is not set and the reserve is a chunk at least and not too large
miss-asks : (S : ℕ) → 0 < S → (k x n : ℕ) (commits : Bool) (settings : Settings) (many : ℕ) → InChunks S settings.reserve many → many + S < 2 ^ 64 → S ≤ settings.reserve
    → (miss_reply S k false (negsuc x) n commits settings).answer ≡ Asks (AskMemory many S false false)
unfolding miss_reply ask_memory too_large
miss-asks S some k x n commits settings many c small unit =
    let b : chunks_for S settings.reserve * S ≡ many = one_number S some settings.reserve many c in
    ap (λ (r : Reply). r.answer)
    (when (leb S settings.reserve && true) _ _ (ap (λ (t : Bool). t && true) (le-leb S settings.reserve unit))
    ∙ unless (leb (2 ^ 64) (chunks_for S settings.reserve * S + S)) _ _ (never (leb (2 ^ 64) (chunks_for S settings.reserve * S + S)) (λ e. absurd (omega (arith, leb-true (2 ^ 64) (chunks_for S settings.reserve * S + S) e)))))
    ∙ ap (λ (y : ℕ). Asks (AskMemory y S false false)) (asked-bytes S settings.reserve settings.page (λ e. omega arith) ∙ b)

-- "the size of an arena that is reserved when none has room": a claim that names none, and that rows 1, 2, 4 and 5 let pass, asks for that size in
-- whole chunks. The recorded differences: the layer is handed bytes, where KiB are kept; and nothing is asked where the mark is set, the size is
-- below a chunk, or too large.
pub reserves-default : (S : ℕ) → 0 < S → (w : World) (ns : ℕ) (settings : Settings) (x n : ℕ) (commits : Bool) (kib many : ℕ)
    → sound S w settings.page ≡ true → w.state.question ≡ Idle → (n ≡ 0 → ⊥) → settings.off ≡ false → settings.reserve ≡ documented_reserve kib
    → w.state.mark ≡ false → S ≤ documented_reserve kib → InChunks S (documented_reserve kib) many → many + S < 2 ^ 64
    → NoneHasRoom w n → (rules S w ns settings (act (claim (negsuc x) n commits))).answer ≡ Asks (AskMemory many S false false)
reserves-default S some w ns settings x n commits kib many passed idle n0 on size mark unit c small none =
    ap (λ (o : Outcome). o.answer)
    (past-4 S w ns settings (negsuc x) n commits passed idle n0
    ∙ unless (not (arena_allowed settings.off (negsuc x))) _ _ (ap (λ (b : Bool). not (arena_allowed b (negsuc x))) on ∙ (unfold arena_allowed in refl)))
    ∙ search-cases S w.records w.stamps w.state.count w.state.mark (λ (o : Outcome). o.answer ≡ Asks (AskMemory many S false false)) (negsuc x) n commits _
    (λ h. ap (λ (m : Bool). (miss_reply S w.state.count m (negsuc x) n commits settings).answer) mark
    ∙ miss-asks S some w.state.count x n commits settings many (subst (λ (y : ℕ). InChunks S y many) (sym size) c) small (subst (λ (y : ℕ). S ≤ y) (sym size) unit))
    (λ i h v. let r = serves-room x n w.records i v in absurd (none i h r.0 r.1))

miss-memory : (S : ℕ) → 0 < S → (w : World) (settings : Settings) (n : ℕ) (commits : Bool) (many align : ℕ) (commit large : Bool) (id : ℤ)
    → ((i : ℕ) → i < w.state.count → serves id n w.records i ≡ false)
    → (miss_reply S w.state.count w.state.mark id n commits settings).answer ≡ Asks (AskMemory many align commit large)
    → AsksDefault S settings.reserve (AskMemory many align commit large) × NoneHasRoom w n × ((i : ℕ) → id ≡ pos i → ⊥)
unfolding miss_reply ask_memory
miss-memory S some w settings n commits many align commit large (pos x) h = λ e. absurd (let z : ◌≡◌ {A = ℕ} 0 1 = cc in omega arith)
miss-memory S some w settings n commits many align commit large (negsuc x) h =
    by_cond P (leb S settings.reserve && not w.state.mark) _ _
    (λ f. by_cond P (too_large S settings.reserve) _ _ (λ g e. absurd (let z : ◌≡◌ {A = ℕ} 0 1 = cc in omega arith))
    (λ g e. (
      record {
        many = chunks_for S settings.reserve * S;
        in-chunks = in-chunks S some settings.reserve;
        is = same _ e ∙ ap (λ (y : ℕ). AskMemory y S false false) (asked-bytes S settings.reserve settings.page (λ z. omega (arith, leb-true S settings.reserve (and_both (leb S settings.reserve) _ f).0)));
      },
      λ i u v r. true≢false (sym (room-serves x n w.records i v r) ∙ h i u),
      λ i z. let y : ◌≡◌ {A = ℕ} 0 1 = cc in omega arith,
    )))
    (λ f e. absurd (let z : ◌≡◌ {A = ℕ} 0 1 = cc in omega arith))
  where
    P : Reply → Type 0
    P r = r.answer ≡ Asks (AskMemory many align commit large) → AsksDefault S settings.reserve (AskMemory many align commit large) × NoneHasRoom w n × ((i : ℕ) → negsuc x ≡ pos i → ⊥)

    same : (ask : Ask) → Asks ask ≡ Asks (AskMemory many align commit large) → AskMemory many align commit large ≡ ask
    same ask e = cc

-- and only then is memory asked for by a claim
pub reserves-only : (S : ℕ) → 0 < S → (w : World) (ns : ℕ) (settings : Settings) (id : ℤ) (n : ℕ) (commits : Bool) (many align : ℕ) (commit large : Bool)
    → (rules S w ns settings (act (claim id n commits))).answer ≡ Asks (AskMemory many align commit large)
    → AsksDefault S settings.reserve (AskMemory many align commit large) × NoneHasRoom w n × ((i : ℕ) → id ≡ pos i → ⊥)
reserves-only S some w ns settings id n commits many align commit large =
    act-cases S w ns settings P turned (claim id n commits)
    (λ p idle. claim-cases S w.records w.stamps w.state.count w.state.mark P id n commits settings (λ e. turned _) (λ e f. turned _)
    (λ e f. search-cases S w.records w.stamps w.state.count w.state.mark P id n commits _
    (miss-memory S some w settings n commits many align commit large id)
    (λ i h v. grant-cases S w.records w.stamps w.state.count w.state.mark P i n commits (λ g e. absurd (let z : ◌≡◌ {A = ℕ} 0 1 = cc in omega arith))
    (λ s g e. absurd (let z : ◌≡◌ {A = ℕ} 0 1 = cc in omega arith)) (λ s g e. absurd (let z : ◌≡◌ {A = ℕ} 0 1 = cc in omega arith)))))
  where
    P : Outcome → Type 0
    P o = o.answer ≡ Asks (AskMemory many align commit large) → AsksDefault S settings.reserve (AskMemory many align commit large) × NoneHasRoom w n × ((i : ℕ) → id ≡ pos i → ⊥)

    turned : (why : Refusal) → P (outcome (Refused why) w)
    turned why e = absurd (let z : ◌≡◌ {A = ℕ} 0 1 = cc in omega arith)
