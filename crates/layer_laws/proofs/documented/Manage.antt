-- manage_os_memory: the area is aligned inward, and never given back. Assumes nothing.
use Rattle.std.specs.Prelude.{◌≡◌, ◌||◌, ◌+◌, ◌-◌, ◌*◌, ◌/◌, ◌^◌, ◌<◌, ◌≤◌}
use Rattle.layer.proofs.Prelude.{refl, sym, ap, ◌∙◌, subst, Bool, true, false, true≢false, not, ⊎_elim, ℕ, suc, suc-mul, mul-mod_left, mul-le-mul_right, arith, leb-false, eqb, leb, ℤ, length, Refusal, NoWholeChunk, when, by_cond, lt-or-le, Arena, flag-read, new_arena, managed_arena, bytes_of, end_of, World, Outcome, outcome, at, meets, sound, bad_range, chunks_for, bytes_asked, ask_memory, first_whole, past_whole, no_whole_chunk, manage_of, Call, manage, answer, act, rules}
use native.Mathlib.Nat.{div-mul-le_self}
use Rattle.layer.specs.declared.Settings.{Settings}
use Rattle.layer.specs.declared.Question.TheVariants.{Idle, Reserving}
use Rattle.layer.specs.declared.Ask.{Ask}
use Rattle.layer.specs.declared.Ask.TheVariants.{AskCommit, AskPurge, AskMemory, AskGiveBack}
use Rattle.layer.specs.declared.Answer.TheVariants.{Refused, Asks, Registered}
use Rattle.layer.proofs.Tools.{or-false}
use Rattle.layer.proofs.ChunkLaws.{managed-whole, up-enough, up_least, down-most}
use Rattle.layer.proofs.Rules.{count-facts}
use Rattle.layer.proofs.Registered.{good-range, meets-false}
use Rattle.layer.proofs.Calls.{past-2, calm-world, act-cases}
use Rattle.layer.proofs.Cases.{manage-cases, register-cases}
use Rattle.layer_laws.proofs.after_refusal.Answers.{registered-not}
use Rattle.layer_laws.specs.after_refusal.Standing.{head_of, Grown}
use Rattle.layer_laws.proofs.after_refusal.Forms.{is_ask, step-forms, arenas-stand}
use Rattle.layer_laws.specs.documented.Areas.{bytes, is_owned, Stands, Apart, Whole, AlignedInward, Managed, BroughtNow, TakenAsUsed}
use Rattle.layer_laws.proofs.documented.Tools.{sound-long, registered-at, each-bit}

-- ---- aligned inward

module _ (S : ℕ) (some : 0 < S) (start size : ℕ) where
  -- the whole chunks between the first and the last
  abbrev between : ℕ
  between = (past_whole S start size - first_whole S start) / S

  inward : (exclusive : Bool) (node : ℤ) → first_whole S start < past_whole S start size → 1 ≤ between → AlignedInward S start size (managed_arena (first_whole S start) between exclusive node)
  unfolding managed_arena new_arena
  inward exclusive node lt one =
      let b : between * S ≡ past_whole S start size - first_whole S start = managed-whole S some start size in
      let up : start ≤ first_whole S start = up-enough S some start in
      let down : past_whole S start size ≤ start + size = div-mul-le_self (start + size) S in
      record {
        aligned = mul-mod_left (chunks_for S start) S;
        inside = λ x h. (omega (arith, h.0), omega (arith, h.1));
        whole = λ c h. (up_least S some start c h.0, (let d : c * S + S ≤ past_whole S start size = down-most S some (start + size) c h.1 in omega arith));
        unit = let m : 1 * S ≤ between * S = mul-le-mul_right S one in omega arith;
      }

  -- row 15 lets no range pass that has no whole chunk
  some-whole : no_whole_chunk S start size ≡ false → first_whole S start < past_whole S start size
  unfolding no_whole_chunk
  some-whole e = leb-false (past_whole S start size) (first_whole S start) (or-false (leb (2 ^ 64) (start + (S - 1))) _ (or-false (leb (2 ^ 64) (start + size)) _ (or-false (eqb start 0) _ e).1).1).1

  first-is-whole : first_whole S start < past_whole S start size → Whole S start size (chunks_for S start)
  first-is-whole h = (
    up-enough S some start,
    ⊎_elim (λ (u : chunks_for S start < (start + size) / S).
        let m : suc (chunks_for S start) * S ≤ (start + size) / S * S = mul-le-mul_right S u in
        omega (arith, suc-mul (chunks_for S start) S, div-mul-le_self (start + size) S))
        (λ (u : (start + size) / S ≤ chunks_for S start). let m : (start + size) / S * S ≤ chunks_for S start * S = mul-le-mul_right S u in absurd (omega arith))
        (lt-or-le (chunks_for S start) ((start + size) / S)),
  )

-- ---- the call

taken-as-used : (base chunks : ℕ) (exclusive : Bool) (node : ℤ) → chunks ≤ 1024 → TakenAsUsed (managed_arena base chunks exclusive node)
unfolding managed_arena new_arena
taken-as-used base chunks exclusive node few j h = (each-bit chunks true j few h, each-bit chunks true j few h)

stored-as-told : (base chunks : ℕ) (exclusive : Bool) (node : ℤ) (S start size : ℕ) → AlignedInward S start size (managed_arena base chunks exclusive node) → Managed S start size exclusive node (managed_arena base chunks exclusive node)
unfolding managed_arena new_arena
stored-as-told base chunks exclusive node S start size a = record { area = a; alone = flag-read exclusive; stored = refl; not-owned = refl }

-- the arena that a manage registers; its chunks count as committed and dirty whatever the host knows of them
pub manage-registers : (S : ℕ) → 0 < S → (w : World) (ns : ℕ) (settings : Settings) (start size : ℕ) (exclusive : Bool) (node : ℤ) (mapped reserved : Bool) (id : ℕ)
    → let o = rules S w ns settings (act (manage start size exclusive node mapped reserved)) in
    o.answer ≡ Registered id → Managed S start size exclusive node (at o.world.records id) × TakenAsUsed (at o.world.records id)
manage-registers S some w ns settings start size exclusive node mapped reserved id =
    act-cases S w ns settings P turned (manage start size exclusive node mapped reserved)
    (λ s idle. unfold manage_of in by_cond P (no_whole_chunk S start size) _ _ (λ e. turned _)
    (λ whole. by_cond P (mapped || not reserved) _ _ (λ e. turned _)
    (λ host. by_cond P (bad_range S w.records w.state.count (first_whole S start) (past_whole S start size - first_whole S start)) _ _ (λ e. turned _)
    (λ range. register-cases S w.records w.stamps w.state.count w.state.mark P _ _ (turned _) (turned _)
    (λ count room e.
    let k : w.state.count < length w.records = omega (arith, sound-long S w settings.page s, room) in
    let c = count-facts (between S some start size) count in
    registered-at (λ (a : Arena). Managed S start size exclusive node a × TakenAsUsed a) w.records w.state.count id _ e k (
      stored-as-told (first_whole S start) (between S some start size) exclusive node S start size (inward S some start size exclusive node (some-whole S some start size whole) c.0),
      taken-as-used (first_whole S start) (between S some start size) exclusive node c.1,
    ))))))
  where
    P : Outcome → Type 0
    P o = o.answer ≡ Registered id → Managed S start size exclusive node (at o.world.records id) × TakenAsUsed (at o.world.records id)

    turned : (why : Refusal) → P (outcome (Refused why) w)
    turned why f = absurd (registered-not id why (sym f))

-- it puts no question
pub manage-asks-nothing : (S : ℕ) (w : World) (ns : ℕ) (settings : Settings) (start size : ℕ) (exclusive : Bool) (node : ℤ) (mapped reserved : Bool)
    → is_ask (rules S w ns settings (act (manage start size exclusive node mapped reserved))).answer ≡ false
manage-asks-nothing S w ns settings start size exclusive node mapped reserved =
    act-cases S w ns settings N (λ why. refl) (manage start size exclusive node mapped reserved)
    (λ s idle. manage-cases S w.records w.stamps w.state.count w.state.mark N start size exclusive node mapped reserved refl refl refl
    (λ e. register-cases S w.records w.stamps w.state.count w.state.mark N _ _ refl refl (λ f h. refl)))
  where
    N : Outcome → Type 0
    N o = is_ask o.answer ≡ false

-- "The area must be at least as large as the allocator's arena unit": a range with no whole chunk is refused with 15
pub manage-too-small : (S : ℕ) → 0 < S → (w : World) (ns : ℕ) (settings : Settings) (start size : ℕ) (exclusive : Bool) (node : ℤ) (mapped reserved : Bool)
    → sound S w settings.page ≡ true → w.state.question ≡ Idle → ((c : ℕ) → Whole S start size c → ⊥)
    → rules S w ns settings (act (manage start size exclusive node mapped reserved)) ≡ outcome (Refused NoWholeChunk) w
unfolding manage_of
manage-too-small S some w ns settings start size exclusive node mapped reserved s idle none =
    past-2 S w ns settings s idle (manage start size exclusive node mapped reserved) ∙ when (no_whole_chunk S start size) _ _ (go (no_whole_chunk S start size) refl)
    ∙ ap (outcome (Refused NoWholeChunk)) (calm-world w idle)
  where
    go : (b : Bool) → no_whole_chunk S start size ≡ b → b ≡ true
    go true e = refl
    go false e = absurd (none (chunks_for S start) (first-is-whole S some start size (some-whole S some start size e)))

-- ---- "which never frees it"

-- a range that row 6 lets pass has no address of an arena's
elsewhere : (S : ℕ) (a : Arena) (address chunks : ℕ) → meets S a address (chunks * S) ≡ false → Apart S a address chunks
unfolding end_of bytes_of
elsewhere S a address chunks e x u v =
    ⊎_elim (λ (h : a.base + a.chunks * S ≤ address). omega (arith, u.0, v.1)) (λ (h : address + chunks * S ≤ a.base). omega (arith, u.1, v.0))
    (meets-false S a address (chunks * S) e (omega (arith, u.0, u.1)))

pub never-frees : (S : ℕ) (w : World) (ns : ℕ) (settings : Settings) (c : Call) (address many : ℕ)
    → (rules S w ns settings c).answer ≡ Asks (AskGiveBack address many) → BroughtNow S w c address many
unfolding ask_memory
never-frees S w ns settings c address many = step-forms S w ns settings c P (record {
  as_it_was = λ r a e. absurd (true≢false (sym (ap is_ask e) ∙ a));
  ended = λ r a m t n gave-up stand kept e. absurd (true≢false (sym (ap is_ask e) ∙ a));
  commits = λ m t count i s n x stand a b e. absurd (other (AskCommit x (n * S)) refl e);
  purges = λ m i j x v stand e. absurd (other (AskPurge x S v.decommit) refl e);
  reserves = λ size page commit large exclusive waiting a e. absurd (other (AskMemory (bytes_asked S size page) S commit large) refl e);
  gives_back = λ chunks bytes commit exclusive waiting kind base cause a b g e.
      let same : (base ≡ address) × (bytes ≡ many) = (same_address base bytes e, same_bytes base bytes e) in
      record {
        chunks = chunks;
        commit = commit;
        exclusive = exclusive;
        waiting = waiting;
        kind = kind;
        asked = a ∙ ap (λ (n : ℕ). Reserving chunks n commit exclusive waiting) same.1;
        brought = b ∙ ap (answer kind true) same.0;
        elsewhere = λ i h. subst (λ (x : ℕ). Apart S (at w.records i) x chunks) same.0 (elsewhere S (at w.records i) base chunks ((good-range S w.records w.state.count base (chunks * S) g).alone i h));
      };
})
  where
    P : Outcome → Type 0
    P o = o.answer ≡ Asks (AskGiveBack address many) → BroughtNow S w c address many

    is_give_back : Ask → Bool
    is_give_back (AskCommit x n) = false
    is_give_back (AskPurge x n decommit) = false
    is_give_back (AskMemory n align commit large) = false
    is_give_back (AskGiveBack x n) = true

    other : (ask : Ask) → is_give_back ask ≡ false → Asks ask ≡ Asks (AskGiveBack address many) → ⊥
    other ask f e = let z : ask ≡ AskGiveBack address many = cc in true≢false (sym (ap is_give_back z) ∙ f)

    same_address : (x n : ℕ) → Asks (AskGiveBack x n) ≡ Asks (AskGiveBack address many) → x ≡ address
    same_address x n e = cc

    same_bytes : (x n : ℕ) → Asks (AskGiveBack x n) ≡ Asks (AskGiveBack address many) → n ≡ many
    same_bytes x n e = cc

-- the arena stands for good, and its area, its node and whom it serves stay, whatever is called
pub managed-stays : (S : ℕ) (w : World) (ns : ℕ) (settings : Settings) (c : Call) (i : ℕ) → Stands w i → is_owned (at w.records i) ≡ false
    → let v = (rules S w ns settings c).world in Stands v i × (head_of (at v.records i) ≡ head_of (at w.records i))
managed-stays S w ns settings c i h e =
    let s = arenas-stand S w ns settings c i h in
    let v = (rules S w ns settings c).world in
    (s.0, ⊎_elim (λ (g : head_of (at v.records i) ≡ head_of (at w.records i)). g) (λ (g : Grown (at w.records i) (at v.records i)). absurd (true≢false (sym g.0 ∙ e))) s.1)
