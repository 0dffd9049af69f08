-- What a replay keeps between two lines, and what a line makes of it. Assumes nothing.
use Rattle.std.specs.Prelude.{Bool, false, cond, ◌&&◌, ℕ, ◌*◌, ◌/◌, ◌%◌, ◌^◌, eqb, leb, ℤ, pos, Option, Some, None}
use Rattle.std.specs.Int.Bits.{bit_or}
use Rattle.bitmap.specs.Bits.{bit}
use Rattle.layer.specs.declared.Question.TheVariants.{Idle}
use Rattle.layer.specs.declared.State.{State}
use Rattle.layer.specs.declared.Reply.{Reply}
use Rattle.layer.specs.World.{state_with}
use Rattle.surface.specs.declared.reply.ReplyNumbers.{ReplyNumbers}
use Rattle.arena.specs.Flags.{as_flag}
use Rattle.surface.specs.Replies.{reply_of}
use Rattle.samples.specs.declared.lines.Line.{Line}
use Rattle.samples.specs.Counting.{after_answer, after_malformed}
use Rattle.samples.specs.Counting as C
use Rattle.samples.specs.Signed.{signed_of}
use Rattle.layer_samples.specs.declared.Carried.{Carried}
use Rattle.layer_samples.specs.declared.Said.{Said}
use Rattle.layer_samples.specs.declared.Session.{Session}

-- ---- lines
abbrev pub no_line : ℕ → Line
no_line kind = record { kind = kind; a = 0; b = 0; r = 0 }

abbrev pub line_of : Option Line → Line
line_of (Some l) = l
line_of None = no_line 16

abbrev pub is_call : Line → Bool
is_call l = leb 4 l.kind && leb l.kind 13

abbrev pub is_hash : Line → Bool
is_hash l = eqb l.kind 15

-- ---- a session
abbrev pub none : Session
none =
    record {
      state = state_with 0 false Idle;
      carried = record { ns = 0; settings = record { delay = pos 0; decommits = false; off = false; reserve = 0; page = 0 }; x = 0; y = 0 };
      said = record { address = 0; bytes = 0; word = 0 };
      tally = C.none;
    }

-- ---- a call

-- ---- what is counted
abbrev pub counted : Session → Bool → Session
counted s same = record { state = s.state; carried = s.carried; said = s.said; tally = after_answer s.tally same }

abbrev pub skipped : Session → Session
skipped s = record { state = s.state; carried = s.carried; said = s.said; tally = after_malformed s.tally }

-- ---- what a call said
-- x, shifted by n places
abbrev shifted : ℕ → ℕ → ℕ
shifted x n = x * 2 ^ n % 18446744073709551616

unfoldable pub word_of : ℕ → Bool → Bool → Bool → Bool → Bool → Bool → ℕ → ℕ → ℕ
word_of kind fresh committed owns decommit commit large id count =
    bit_or (bit_or (bit_or kind
    (bit_or (bit_or (shifted (as_flag fresh) 8) (shifted (as_flag committed) 9)) (shifted (as_flag owns) 10)))
    (bit_or (bit_or (shifted (as_flag decommit) 11) (shifted (as_flag commit) 12)) (shifted (as_flag large) 13)))
    (bit_or (shifted id 16) (shifted count 32))

unfoldable pub said_of : ReplyNumbers → Said
said_of x =
    record {
      address = x.address;
      bytes = x.bytes;
      word = word_of x.kind x.fresh x.committed x.owns x.decommit x.commit x.large x.id x.count;
    }

unfoldable pub called_of : Session → Line → Reply → Session
called_of s l r = record { state = r.state; carried = s.carried; said = said_of (reply_of r); tally = after_answer s.tally (eqb (reply_of r).number l.r) }

unfoldable pub hashed_of : Session → Line → ℕ → Session
hashed_of s l h = counted s (eqb h l.a && eqb l.r 1)

-- ---- other lines
abbrev pub with_clock : Carried → ℕ → ℤ → Carried
with_clock c ns delay =
    record {
      ns = ns;
      settings = record { delay = delay; decommits = c.settings.decommits; off = c.settings.off; reserve = c.settings.reserve; page = c.settings.page };
      x = c.x;
      y = c.y;
    }

abbrev pub with_settings : Carried → ℕ → ℕ → Carried
with_settings c a reserve =
    record { ns = c.ns; settings = record { delay = c.settings.delay; decommits = bit a 0; off = bit a 1; reserve = reserve; page = a / 256 }; x = c.x; y = c.y }

abbrev pub with_more : Carried → ℕ → ℕ → Carried
with_more c x y = record { ns = c.ns; settings = c.settings; x = x; y = y }

unfoldable pub carried_of : Carried → Line → Carried
carried_of c l =
    cond (eqb l.kind 1) (with_clock c l.a (signed_of l.b))
    (cond (eqb l.kind 2) (with_settings c l.a l.b)
    (cond (eqb l.kind 3) (with_more c l.a l.b) c))

unfoldable pub state_after : State → Line → State
state_after z l = cond (eqb l.kind 0) none.state z

abbrev pub carrying : Session → Line → Session
carrying s l = record { state = state_after s.state l; carried = carried_of s.carried l; said = s.said; tally = after_answer s.tally (eqb l.r 1) }

abbrev pub says_so : Said → Line → Bool
says_so said l = (eqb said.address l.a && eqb said.bytes l.b) && eqb said.word l.r

unfoldable pub noted_of : Session → Line → Session
noted_of s l =
    cond (eqb l.kind 14) (counted s (says_so s.said l))
    (cond (eqb l.kind 16) (skipped s)
    (cond (eqb l.kind 17) s (carrying s l)))
