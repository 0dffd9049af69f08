-- Histories: calls and lists of releases, each marked with its program and with what it is lent, from the empty layer, and joins of two histories; any layer's run of one, and the
-- rules' own; what the share book of an exclusive arena is fed and its program is told; and the premises of demand 3. What is open, who asked for what and what is registered are read
-- off the rules' own run: "a question is open from where the rules above put it until they close it, whatever a layer says". Assumes nothing.
use Rattle.std.specs.Prelude.{◌≡◌, Bool, true, false, cond, not, ◌&&◌, List, [], ◌∷◌, ◌++◌, map, ◌⊎◌, ℕ, zero, suc, ◌+◌, ◌*◌, ◌%◌, ◌^◌, ◌<◌, ◌≤◌, ℤ, pos, negsuc, leb, ltb, eqb, Result, Ok, Err}
use Rattle.refusals.specs.declared.Refusal.{Refusal}
use Rattle.std.proofs.Common.{inl, inr}
use Rattle.refusals.specs.Number.{number}
use Rattle.layer.specs.declared.Settings.{Settings}
use Rattle.layer.specs.declared.Question.{Question}
use Rattle.layer.specs.declared.Question.TheVariants.{Idle}
use Rattle.layer.specs.declared.Kind.TheVariants.{ForCommit, ForMemory}
use Rattle.layer.specs.declared.Answer.{Answer}
use Rattle.layer.specs.declared.Answer.TheVariants.{Refused, Asks, Registered, Claimed, Released, Swept, Owns, Area}
use Rattle.layer.specs.World.{World, Outcome, size_of, empty}
use Rattle.layer.specs.Table.{at, sound}
use Rattle.layer.specs.Answering.{is_for}
pub use Rattle.layer.specs.Answering.{is_idle}
use Rattle.layer.specs.Step.{Act, reserve, manage, adopt, claim, release, sweep, owns, Call, act, query, answer, step}
use Rattle.layer.specs.Listing.{Items, ListOutcome, list_fits, release_list}
use Rattle.layer.specs.Joining.{JoinOutcome, join}
use Rattle.layer.specs.Book.{How, lowest, Fed, claims, releases, Say, refused, granted, released}

-- ---- histories

-- a call, its program, and what it carries and is lent
pub record Marked : Type 0 where
  pub who : ℕ
  pub lent : World
  pub ns : ℕ
  pub settings : Settings
  pub call : Call

-- a join, and what it carries and is lent of the two tables
pub record MarkedJoin : Type 0 where
  pub first : World
  pub second : World
  pub ns : ℕ
  pub settings : Settings

-- a list of releases, its program, and what it carries and is lent
pub record MarkedList : Type 0 where
  pub who : ℕ
  pub lent : World
  pub ns : ℕ
  pub settings : Settings
  pub items : Items

-- which of its two tables
pub data Side : Type 0 where
  of_first : Side
  of_second : Side

-- The past of one table. "For every sequence of calls [..], refused ones included, from an empty layer"; and a join is of two tables, each with a past of its own:
-- what comes then of the first, and of the second, which "is left empty, a new call sequence beginning there".
pub data History : Type 0 where
  begin : History
  next : History → Marked → History
  listing : History → MarkedList → History
  joining : Side → History → History → MarkedJoin → History

-- "Sound is what row 1 lets pass."
abbrev pub is_sound : Marked → Bool
is_sound m = sound (size_of m.lent.state) m.lent m.settings.page

abbrev pub is_sound_list : MarkedList → Bool
is_sound_list m = sound (size_of m.lent.state) m.lent m.settings.page

abbrev pub both_sound : MarkedJoin → Bool
both_sound m = sound (size_of m.first.state) m.first m.settings.page && sound (size_of m.second.state) m.second m.settings.page

-- ---- a layer's run

-- what a layer does with a call, with a list of releases, and with a join of two tables
pub record Layer : Type 0 where
  pub does : World → ℕ → Settings → Call → Outcome
  pub lists : World → ℕ → Settings → Items → ListOutcome
  pub joins : World → World → ℕ → Settings → JoinOutcome

-- THE RULES as a layer
abbrev pub by_rules : Layer
by_rules = record { does = step; lists = release_list; joins = join }

abbrev pub outcome_by : Layer → Marked → Outcome
outcome_by L m = L.does m.lent m.ns m.settings m.call

abbrev pub list_by : Layer → MarkedList → ListOutcome
list_by L m = L.lists m.lent m.ns m.settings m.items

abbrev pub join_by : Layer → MarkedJoin → JoinOutcome
join_by L m = L.joins m.first m.second m.ns m.settings

-- refused with 1
abbrev pub is_broken : Answer → Bool
is_broken (Refused why) = eqb (number why) 1
is_broken (Asks ask) = false
is_broken (Registered id) = false
is_broken (Claimed address fresh committed) = false
is_broken Released = false
is_broken (Swept count) = false
is_broken (Owns whether) = false
is_broken (Area base bytes) = false

abbrev pub is_broken_join : Result ℕ Refusal → Bool
is_broken_join (Err why) = eqb (number why) 1
is_broken_join (Ok rise) = false

-- of a side
abbrev pub side_of : {A : Type 0} → Side → A → A → A
side_of of_first x y = x
side_of of_second x y = y

-- what the last call that it did not refuse with 1 left
abbrev pub left : Layer → History → World
left L begin = empty
left L (next h m) = cond (is_broken (outcome_by L m).answer) (left L h) (outcome_by L m).world
left L (listing h m) = cond (is_broken (list_by L m).whole.answer) (left L h) (list_by L m).whole.world
left L (joining side h g m) = cond (is_broken_join (join_by L m).answer) (side_of side (left L h) (left L g)) (side_of side (join_by L m).first (join_by L m).second)

-- "each call not refused with 1 being lent the records, stamps and state as the last such call left them"
abbrev pub Lent : Layer → History → Type 0
Lent L begin = Unit {0}
Lent L (next h m) = Lent L h × (is_broken (outcome_by L m).answer ≡ false → m.lent ≡ left L h)
Lent L (listing h m) = Lent L h × (is_broken (list_by L m).whole.answer ≡ false → m.lent ≡ left L h)
Lent L (joining side h g m) = Lent L h × Lent L g × (is_broken_join (join_by L m).answer ≡ false → (m.first ≡ left L h) × (m.second ≡ left L g))

-- ---- the rules' own run

-- what the rules leave, and the call that put the question that is open there, with its program: "A commit question is its caller's own"
pub record Trail : Type 0 where
  pub world : World
  pub asker : ℕ
  pub asked : Call

-- the question that the rules put and have not closed
abbrev pub open_at : Trail → Question
open_at t = t.world.state.question

-- the rules go on from what they left; a call that row 1 turns down is nothing to them. Who calls while no question is open asks the one that the call puts.
abbrev pub follow : Trail → Marked → Trail
follow t m =
    cond (is_sound m)
    (record {
      world = (step t.world m.ns m.settings m.call).world;
      asker = cond (is_idle (open_at t)) m.who t.asker;
      asked = cond (is_idle (open_at t)) m.call t.asked;
    })
    t

-- no question is open at the start, and a query stands for the call that put it
abbrev pub start : Trail
start = record { world = empty; asker = 0; asked = query (owns 0) }

-- whoever asked is remembered, where what comes leaves the question that is open
abbrev pub leaving : Trail → World → Trail
leaving t w = record { world = w; asker = t.asker; asked = t.asked }

-- the rules' list on what they left: it puts no question
abbrev pub list_of : Trail → MarkedList → ListOutcome
list_of t m = release_list t.world m.ns m.settings m.items

abbrev pub follow_list : Trail → MarkedList → Trail
follow_list t m = cond (is_sound_list m) (leaving t (list_of t m).whole.world) t

-- the rules' join of what they left of two tables: one that leaves a question open has left both
abbrev pub join_of : Trail → Trail → MarkedJoin → JoinOutcome
join_of t u m = join t.world u.world m.ns m.settings

abbrev pub follow_join : Side → Trail → Trail → MarkedJoin → Trail
follow_join side t u m = cond (both_sound m) (side_of side (leaving t (join_of t u m).first) (leaving u (join_of t u m).second)) (side_of side t u)

abbrev pub ruled : History → Trail
ruled begin = start
ruled (next h m) = follow (ruled h) m
ruled (listing h m) = follow_list (ruled h) m
ruled (joining side h g m) = follow_join side (ruled h) (ruled g) m

-- the rules make one table of the two
abbrev pub is_joined : Result ℕ Refusal → Bool
is_joined (Ok rise) = true
is_joined (Err why) = false

abbrev pub unites : Trail → Trail → MarkedJoin → Bool
unites t u m = both_sound m && is_joined (join_of t u m).answer

-- ---- what a call says of arenas, and what it is told

-- a claim at an arena id, how and of how many; a release at an address, of how many
pub data Entry : Type 0 where
  claims_at : ℤ → How → ℕ → Entry
  releases_at : ℕ → ℕ → Entry

abbrev pub entries_of : Act → List Entry
entries_of (reserve size commit large exclusive) = []
entries_of (manage from size exclusive node mapped reserved) = []
entries_of (adopt address size) = []
entries_of (claim id n commits) = claims_at id lowest n ∷ []
entries_of (release address n tell pending) = releases_at address n ∷ []
entries_of (sweep force) = []

abbrev pub entries : Call → List Entry
entries (act a) = entries_of a
entries (query c) = []
entries (answer kind accepted base) = []

-- an answer in the book's words, one for each entry; a question says nothing yet: "a claim that puts a commit question gets them with the yes"
abbrev pub said : Answer → List Say
said (Refused why) = refused (number why) ∷ []
said (Claimed address fresh committed) = granted address fresh ∷ []
said Released = released ∷ []
said (Asks ask) = []
said (Registered id) = []
said (Swept count) = []
said (Owns whether) = []
said (Area base bytes) = []

-- a list says an entry for each of its items, in its order
abbrev pub entries_in : List ℕ → List ℕ → List Entry
entries_in (x ∷ xs) (n ∷ counts) = releases_at x n ∷ entries_in xs counts
entries_in [] counts = []
entries_in (x ∷ xs) [] = []

-- and its answers say a word for each: "each item's number (0 for granted) stands at its place". Where the list is turned down as a whole, each item is.
abbrev pub number_says : ℕ → Say
number_says zero = released
number_says (suc n) = refused (suc n)

abbrev pub said_of_list : List Entry → Answer → List ℕ → List Say
said_of_list es Released numbers = map number_says numbers
said_of_list es (Refused why) numbers = map (λ e. refused (number why)) es
said_of_list es (Claimed address fresh committed) numbers = []
said_of_list es (Asks ask) numbers = []
said_of_list es (Registered id) numbers = []
said_of_list es (Swept count) numbers = []
said_of_list es (Owns whether) numbers = []
said_of_list es (Area base bytes) numbers = []

-- an answer goes on with the call that put the question
abbrev pub goes_on : Trail → Call → Call
goes_on t (act a) = act a
goes_on t (query c) = query c
goes_on t (answer kind accepted base) = t.asked

-- and tells of it if it is for that question: row 3 is "none open, or other kind"
abbrev pub tells : Trail → Call → Bool
tells t (act a) = true
tells t (query c) = true
tells t (answer kind accepted base) = is_for (open_at t) kind

-- ---- one exclusive arena

-- its id, the bytes of its chunks, base, chunks, and whether it is managed
pub record Place : Type 0 where
  pub id : ℕ
  pub size : ℕ
  pub base : ℕ
  pub chunks : ℕ
  pub managed : Bool

unfoldable pub in_range : Place → ℕ → Bool
in_range a x = leb a.base x && ltb x (a.base + a.chunks * a.size)

-- "n of each claim [..] at that id, and address and n of each [release] in the range"
abbrev pub fed_at : Place → Entry → List Fed
fed_at a (claims_at (pos i) how n) = cond (eqb i a.id) (claims how n ∷ []) []
fed_at a (claims_at (negsuc i) how n) = []
fed_at a (releases_at x n) = cond (in_range a x) (releases x n ∷ []) []

abbrev pub is_none : List Fed → Bool
is_none [] = true
is_none (f ∷ fs) = false

abbrev pub feeds : Place → List Entry → List Fed
feeds a [] = []
feeds a (e ∷ es) = fed_at a e ++ feeds a es

-- of the sayings, those of the entries there
abbrev pub hears : Place → List Entry → List Say → List Say
hears a [] ss = []
hears a (e ∷ es) [] = []
hears a (e ∷ es) (s ∷ ss) = cond (is_none (fed_at a e)) (hears a es ss) (s ∷ hears a es ss)

-- what a call feeds the book; one that row 1 turns down feeds nothing
abbrev pub fed_by : Place → Marked → List Fed
fed_by a m = cond (is_sound m) (feeds a (entries m.call)) []

-- what a layer's answer to it tells the arena's program: of the call's own entries there, or of those of the call that it goes on with
abbrev pub told_by : Layer → Place → Trail → Marked → List Say
told_by L a t m = cond (is_sound m && tells t m.call) (hears a (entries (goes_on t m.call)) (said (outcome_by L m).answer)) []

-- the rules do not refuse the list as a whole: rows 1, 2 and 19 let it pass
abbrev pub is_taken : Trail → MarkedList → Bool
is_taken t m = is_sound_list m && (is_idle (open_at t) && list_fits m.items)

abbrev pub entries_of_list : MarkedList → List Entry
entries_of_list m = entries_in m.items.addresses m.items.counts

-- "A share book is fed its program's items in the range one by one, and nothing of a list refused as a whole."
abbrev pub fed_by_list : Place → Trail → MarkedList → List Fed
fed_by_list a t m = cond (is_taken t m) (feeds a (entries_of_list m)) []

-- what a layer's answers to it tell the arena's program
abbrev pub told_by_list : Layer → Place → Trail → MarkedList → List Say
told_by_list L a t m =
    cond (is_taken t m) (hears a (entries_of_list m) (said_of_list (entries_of_list m) (list_by L m).whole.answer (list_by L m).numbers)) []

-- what was fed and waits for its answer
abbrev pub waits : Place → Trail → List Fed
waits a t = cond (is_idle (open_at t)) [] (feeds a (entries t.asked))

-- ---- where a book opens: "The book of an exclusive arena opens when Registering's rules register it (a layer that turns such an arena down fails 3)". The rules
-- are written out here in plain arithmetic.

-- whether the i-th arena has an address
abbrev pub Covers : World → ℕ → ℕ → Type 0
Covers w i x = ((at w.records i).base ≤ x) × (x < (at w.records i).base + (at w.records i).chunks * size_of w.state)

-- n whole chunks from b on that rows 6, 7, 12 and 13 let pass where the arenas of w stand
pub record Registrable (w : World) (b n : ℕ) : Type 0 where
  -- 12: "chunks 0 or above 1,024"
  pub some : 1 ≤ n
  pub few : n ≤ 1024
  -- 7: "address or size not whole"
  pub whole : b % size_of w.state ≡ 0
  -- 6: "range starts at 0, ends past 2^64 − 1 or overlaps an arena"
  pub somewhere : 0 < b
  pub ends : b + n * size_of w.state < 2 ^ 64
  pub apart : (i : ℕ) → i < w.state.count → (x : ℕ) → Covers w i x → b ≤ x → x < b + n * size_of w.state → ⊥
  -- 13: "32 arenas stand"
  pub room : w.state.count < 32

-- the bytes of a chunk, and how many arenas the rules have registered
abbrev pub bytes_in : Trail → ℕ
bytes_in t = size_of t.world.state

abbrev pub standing : Trail → ℕ
standing t = t.world.state.count

-- m manages a range whose whole chunks are the n from b on ("keeps the whole chunks inside the range"), and neither 15 nor 16 turns it down
pub record Manages (t : Trail) (m : Marked) (b n : ℕ) : Type 0 where
  pub from : ℕ
  pub bytes : ℕ
  pub node : ℤ
  pub is_call : m.call ≡ act (manage from bytes true node false true)
  pub none_open : open_at t ≡ Idle
  pub some-start : 0 < from
  pub first : (from ≤ b) × (b < from + bytes_in t)
  pub last : (b + n * bytes_in t ≤ from + bytes) × (from + bytes < b + n * bytes_in t + bytes_in t)
  pub sum_fits : from + bytes < 2 ^ 64

-- m brings memory at b, which a reserve of n chunks ("rounds up to whole chunks") as an exclusive arena asked for
pub record Reserves (t : Trail) (m : Marked) (b n : ℕ) : Type 0 where
  pub bytes : ℕ
  pub commit : Bool
  pub large : Bool
  pub is_call : m.call ≡ answer ForMemory true b
  pub memory-open : is_for (open_at t) ForMemory ≡ true
  pub asked_by : t.asked ≡ act (reserve bytes commit large true)
  pub rounds : (bytes ≤ n * bytes_in t) × (n * bytes_in t < bytes + bytes_in t)

abbrev pub Registers : Trail → Marked → ℕ → ℕ → Bool → Type 0
Registers t m b n true = Manages t m b n
Registers t m b n false = Reserves t m b n

-- m opens a book
pub record OpensAt (t : Trail) (m : Marked) : Type 0 where
  pub base : ℕ
  pub chunks : ℕ
  pub managed : Bool
  pub is-sound : is_sound m ≡ true
  pub registrable : Registrable t.world base chunks
  pub registers : Registers t m base chunks managed

-- the books that stand after a history: each where it was opened. The second's go over to the first where the two become one table; else each table keeps its own.
abbrev pub Where : History → Type 0
Where begin = ⊥
Where (next h m) = OpensAt (ruled h) m ⊎ Where h
Where (listing h m) = Where h
Where (joining of_first h g m) = Where h ⊎ (Where g × (unites (ruled h) (ruled g) m ≡ true))
Where (joining of_second h g m) = Where g × (unites (ruled h) (ruled g) m ≡ false)

-- "its share book going on at the arena's new id": "the second's rise by the first's arena count"
abbrev pub risen : ℕ → Place → Place
risen k a = record { id = k + a.id; size = a.size; base = a.base; chunks = a.chunks; managed = a.managed }

-- its arena, with the id that it has there
abbrev pub place : (h : History) → Where h → Place
place begin w = absurd w
place (next h m) (inl o) = record { id = standing (ruled h); size = bytes_in (ruled h); base = o.base; chunks = o.chunks; managed = o.managed }
place (next h m) (inr w) = place h w
place (listing h m) w = place h w
place (joining of_first h g m) (inl w) = place h w
place (joining of_first h g m) (inr w) = risen (standing (ruled h)) (place g w.0)
place (joining of_second h g m) w = place g w.0

-- ---- along the arena's life: what its book is fed, what its program is told, and the premises. A join feeds nothing and tells nothing, whoever makes it and
-- whatever it answers; what was called on the other table before it is nothing to the arena.

abbrev pub fed : (h : History) → Where h → List Fed
fed begin w = absurd w
fed (next h m) (inl o) = []
fed (next h m) (inr w) = fed h w ++ fed_by (place h w) m
fed (listing h m) w = fed h w ++ fed_by_list (place h w) (ruled h) m
fed (joining of_first h g m) (inl w) = fed h w
fed (joining of_first h g m) (inr w) = fed g w.0
fed (joining of_second h g m) w = fed g w.0

abbrev pub told : Layer → (h : History) → Where h → List Say
told L begin w = absurd w
told L (next h m) (inl o) = []
told L (next h m) (inr w) = told L h w ++ told_by L (place h w) (ruled h) m
told L (listing h m) w = told L h w ++ told_by_list L (place h w) (ruled h) m
told L (joining of_first h g m) (inl w) = told L h w
told L (joining of_first h g m) (inr w) = told L g w.0
told L (joining of_second h g m) w = told L g w.0

abbrev pub is_answer : Call → Bool
is_answer (act a) = false
is_answer (query c) = false
is_answer (answer kind accepted base) = true

-- the open question is a commit question, and the answer to it is no
abbrev pub declines : Question → Call → Bool
declines q (act a) = false
declines q (query c) = false
declines q (answer kind accepted base) = is_for q ForCommit && (is_for q kind && not accepted)

-- at one call, for program p
pub record Premises (p : ℕ) (a : Place) (t : Trail) (m : Marked) : Type 0 where
  -- "one program alone names an exclusive arena in claims and alone releases in its range"
  pub alone : is_none (fed_by a m) ≡ false → m.who ≡ p
  -- "makes its calls with sound tables and settings"
  pub sound-lent : m.who ≡ p → is_sound m ≡ true
  -- "all but answers while no OS question is open"
  pub none_open : m.who ≡ p → is_answer m.call ≡ false → open_at t ≡ Idle
  -- "has each commit question of its own answered yes"
  pub agreed : t.asker ≡ p → is_sound m ≡ true → declines (open_at t) m.call ≡ false

-- at one list: the same, but that a list answers no question
pub record ListPremises (p : ℕ) (a : Place) (t : Trail) (m : MarkedList) : Type 0 where
  pub alone : is_none (fed_by_list a t m) ≡ false → m.who ≡ p
  pub sound-lent : m.who ≡ p → is_sound_list m ≡ true
  pub none_open : m.who ≡ p → open_at t ≡ Idle

abbrev pub Keeps : ℕ → (h : History) → Where h → Type 0
Keeps p begin w = absurd w
Keeps p (next h m) (inl o) = Unit {0}
Keeps p (next h m) (inr w) = Keeps p h w × Premises p (place h w) (ruled h) m
Keeps p (listing h m) w = Keeps p h w × ListPremises p (place h w) (ruled h) m
Keeps p (joining of_first h g m) (inl w) = Keeps p h w
Keeps p (joining of_first h g m) (inr w) = Keeps p g w.0
Keeps p (joining of_second h g m) w = Keeps p g w.0
