-- reserve_os_memory: a reserve asks for the memory, and a yes registers the area that is documented. Assumes nothing.
use Rattle.std.specs.Prelude.{◌≡◌, ◌∷◌, ◌%◌, ◌<◌, ◌≤◌}
use Rattle.layer.proofs.Prelude.{refl, sym, ◌∙◌, Bool, true, false, cond, not, List, [], ℕ, arith, eqb-true, eqb, length, Refusal, Broken, QuestionOpen, ChunkCount, by_cond, Arena, flag-read, new_arena, reserved_arena, World, Outcome, outcome, world_of, turn_down, calm, Row, refuse, first_of, at, sound, chunks_for, bytes_asked, ask_memory, too_large, reserve_reply, reserve_of, reserve, answer, act, rules}
use Rattle.layer.specs.declared.Settings.{Settings}
use Rattle.layer.specs.declared.Question.TheVariants.{Reserving}
use Rattle.layer.specs.declared.Waiting.TheVariants.{Reserve}
use Rattle.layer.specs.declared.Kind.TheVariants.{ForMemory}
use Rattle.layer.specs.declared.Ask.{Ask}
use Rattle.layer.specs.declared.Ask.TheVariants.{AskMemory}
use Rattle.layer.specs.declared.Answer.TheVariants.{Refused, Asks, Registered}
use Rattle.layer.specs.declared.Reply.{Reply}
use Rattle.layer.specs.Answering.{is_idle}
use Rattle.layer.proofs.Rules.{count-facts}
use Rattle.layer.proofs.Calls.{act-cases, yes-cases}
use Rattle.layer.proofs.Cases.{reserve-cases}
use Rattle.layer_laws.proofs.after_refusal.Answers.{asks-not, registered-not}
use Rattle.layer_laws.specs.documented.Areas.{AsksFor, Reserved}
use Rattle.layer.proofs.ChunkLaws.{up-enough}
use Rattle.layer_laws.proofs.documented.Tools.{asked-not-registered, holds, sound-long, registered-at, each-bit}

-- ---- the question

-- the bytes that are asked for
enough : (S : ℕ) → 0 < S → (size page : ℕ) → size ≤ bytes_asked S size page
unfolding bytes_asked
enough S some size page = by_cond (λ (x : ℕ). size ≤ x) (eqb size 0) _ _ (λ e. omega (arith, eqb-true size 0 e)) (λ e. up-enough S some size)

-- a question that a reserve puts is the documented one, and it is kept with what the arena will be
record Asked (S size : ℕ) (commit large exclusive : Bool) (o : Outcome) : Type 0 where
  page : ℕ
  asks : o.answer ≡ Asks (AskMemory (bytes_asked S size page) S commit large)
  waits : o.world.state.question ≡ Reserving (chunks_for S size) (bytes_asked S size page) commit exclusive Reserve

asked : (S : ℕ) (w : World) (ns : ℕ) (settings : Settings) (size : ℕ) (commit large exclusive : Bool) (ask : Ask)
    → (rules S w ns settings (act (reserve size commit large exclusive))).answer ≡ Asks ask → Asked S size commit large exclusive (rules S w ns settings (act (reserve size commit large exclusive)))
unfolding ask_memory
asked S w ns settings size commit large exclusive ask =
    act-cases S w ns settings P turned (reserve size commit large exclusive)
    (λ p idle. reserve-cases S w.records w.stamps w.state.count w.state.mark P size commit large exclusive settings.page (turned _)
    (λ e. record { page = settings.page; asks = refl; waits = refl }))
  where
    P : Outcome → Type 0
    P o = o.answer ≡ Asks ask → Asked S size commit large exclusive o

    turned : {v : World} (why : Refusal) → P (outcome (Refused why) v)
    turned why e = absurd (asks-not ask why (sym e))

pub reserve-asks : (S : ℕ) → 0 < S → (w : World) (ns : ℕ) (settings : Settings) (size : ℕ) (commit large exclusive : Bool) (ask : Ask)
    → (rules S w ns settings (act (reserve size commit large exclusive))).answer ≡ Asks ask → AsksFor S size commit large ask
reserve-asks S some w ns settings size commit large exclusive ask e =
    let a = asked S w ns settings size commit large exclusive ask e in
    record { many = bytes_asked S size a.page; is = same ask _ (sym e ∙ a.asks); enough = enough S some size a.page }
  where
    same : (x y : Ask) → Asks x ≡ Asks y → x ≡ y
    same x y f = cc

-- ---- the arena

reserved : (S : ℕ) → 0 < S → (size : ℕ) (commit exclusive : Bool) (base : ℕ) → base % S ≡ 0 → chunks_for S size ≤ 1024 → Reserved S size commit exclusive base (reserved_arena base (chunks_for S size) commit exclusive)
unfolding reserved_arena new_arena
reserved S some size commit exclusive base whole few = record {
  starts = refl;
  aligned = whole;
  enough = up-enough S some size;
  all-committed = λ j h. each-bit (chunks_for S size) commit j few h;
  alone = flag-read exclusive;
}

-- a yes at a base, on the world that the reserve left
pub reserve-registers : (S : ℕ) → 0 < S → (w : World) (ns later : ℕ) (settings others : Settings) (size : ℕ) (commit large exclusive : Bool) (ask : Ask) (base id : ℕ)
    → (rules S w ns settings (act (reserve size commit large exclusive))).answer ≡ Asks ask
    → let o = rules S (rules S w ns settings (act (reserve size commit large exclusive))).world later others (answer ForMemory true base) in
    o.answer ≡ Registered id → Reserved S size commit exclusive base (at o.world.records id)
reserve-registers S some w ns later settings others size commit large exclusive ask base id e =
    let a = asked S w ns settings size commit large exclusive ask e in
    yes-cases S v later others P turned (chunks_for S size) (bytes_asked S size a.page) commit exclusive Reserve base a.waits (λ cause f. asked-not-registered _ id f)
    (λ p range count whole room f.
    let k : v.state.count < length v.records = omega (arith, sound-long S v others.page p, room) in
    registered-at R v.records v.state.count id new f k (reserved S some size commit exclusive base whole (count-facts (chunks_for S size) count).1))
  where
    v : World
    v = (rules S w ns settings (act (reserve size commit large exclusive))).world

    new : Arena
    new = reserved_arena base (chunks_for S size) commit exclusive

    R : Arena → Type 0
    R = Reserved S size commit exclusive base

    P : Outcome → Type 0
    P o = o.answer ≡ Registered id → R (at o.world.records id)

    turned : (why : Refusal) → P (outcome (Refused why) v)
    turned why f = absurd (registered-not id why (sym f))

-- calls that end alike where a row holds, and leave the same world where none does, leave the same world
same-world : (cs : List (Row Outcome)) (a b : Outcome) → a.world ≡ b.world → (first_of cs a).world ≡ (first_of cs b).world
same-world [] a b e = e
same-world (c ∷ cs) a b e = go c.holds (same-world cs a b e)
  where
    go : (x : Bool) → (first_of cs a).world ≡ (first_of cs b).world → (cond x c.ends (first_of cs a)).world ≡ (cond x c.ends (first_of cs b)).world
    go true f = refl
    go false f = f

-- the recorded difference: allow_large is handed on with the question, and nothing of it is kept
pub large-not-kept : (S : ℕ) (w : World) (ns : ℕ) (settings : Settings) (size : ℕ) (commit exclusive : Bool)
    → (rules S w ns settings (act (reserve size commit true exclusive))).world ≡ (rules S w ns settings (act (reserve size commit false exclusive))).world
unfolding rules reserve_of reserve_reply ask_memory
large-not-kept S w ns settings size commit exclusive =
    same-world (refuse w Broken (not (sound S w settings.page)) ∷ []) _ _ (same-world (refuse w QuestionOpen (not (is_idle w.state.question)) ∷ []) _ _ (go (too_large S size)))
  where
    asks : Bool → Reply
    asks large = ask_memory S w.state.count w.state.mark size settings.page commit large exclusive Reserve

    go : (b : Bool)
        → world_of w.records w.stamps (cond b (turn_down ChunkCount (calm w.state.count w.state.mark)) (asks true)).state
        ≡ world_of w.records w.stamps (cond b (turn_down ChunkCount (calm w.state.count w.state.mark)) (asks false)).state
    go true = refl
    go false = refl
