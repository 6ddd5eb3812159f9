-- What the parser does with each byte.
--     fresh, with_head .. with_step   the parser at the start, and after a byte of the text, a byte of a line, the feed of a line
--     Memory                        the parser, with the space for the text and the one for the steps, three words a step
--     taken, fed, finished          the memory after one byte, after some, and after the last
--     Becomes, EndsBy               what code does to a memory
-- Sizes stop growing one above the most that is asked for, and a place past a space is not stored. Assumes nothing.
use Rattle.std.specs.Prelude.{Bool, true, false, ◌&&◌, List, [], ◌∷◌, ◌≡◌, ℕ, ◌+◌, ◌-◌, eqb, ltb, leb, get_or, set, replicate, cond}
use Rattle.meaning.specs.Text.{digit}
use Rattle.meaning.specs.Replies.{input_limit}
use Rattle.runs.specs.Limits.{most_literals, most_variables, unused_place}
use Rattle.grounds_steps.specs.Steps.{most_steps}
use Rattle.grounds_intake.specs.Parsing.{byte_of, two_of, four_of, places_of, is_conclusion, step_words}
use Rattle.grounds_intake.specs.declared.Head.{Head}
use Rattle.grounds_intake.specs.declared.Buffer.{Buffer}
use Rattle.grounds_intake.specs.declared.Noted.{Noted}
use Rattle.grounds_intake.specs.declared.Parser.{Parser}
use Rattle.grounds_intake.specs.declared.Phase.{Phase}
use Rattle.grounds_intake.specs.declared.Phase.TheVariants.{Start, Zero, Inside, Assignment, Grounds, Beyond}

unfoldable pub grown : ℕ → ℕ → ℕ
grown n most = cond (ltb n most) (n + 1) n

-- ---- in the text

-- after a byte that is no feed
abbrev pub inside_after : Phase → ℕ → Phase
inside_after Start b = cond (eqb b 48) Zero Inside
inside_after Zero b = cond (eqb b 56) Assignment Inside
inside_after Inside b = Inside
inside_after Assignment b = Inside
inside_after Grounds b = Inside
inside_after Beyond b = Inside

unfoldable pub phase_after : Phase → ℕ → Phase
phase_after phase b = cond (eqb b 10) Start (inside_after phase b)

-- where the text ends, and where its last line begins
abbrev pub end_after : Phase → ℕ → ℕ → ℕ
end_after Start start size = size
end_after Zero start size = size
end_after Inside start size = size
end_after Assignment start size = start
end_after Grounds start size = size
end_after Beyond start size = size

abbrev pub start_after : Phase → ℕ → ℕ → ℕ
start_after Start start size = size
start_after Zero start size = start
start_after Inside start size = start
start_after Assignment start size = start
start_after Grounds start size = start
start_after Beyond start size = start

unfoldable pub head_after : Head → ℕ → Head
head_after h b =
    record {
      phase = phase_after h.phase b;
      size = end_after (phase_after h.phase b) h.start (grown h.size (input_limit + 1));
      start = start_after (phase_after h.phase b) h.start (grown h.size (input_limit + 1));
    }

-- ---- a line of the grounds
unfoldable pub empty_line : Buffer
empty_line = record { values = replicate 51 0; size = 0; good = true }

-- the digits 0 and 8
unfoldable pub open_line : Buffer
open_line = record { values = set (replicate 51 0) 1 8; size = 2; good = true }

unfoldable pub pushed : Buffer → ℕ → Buffer
pushed l b = record { values = set l.values l.size (digit b); size = grown l.size 51; good = l.good && ltb (digit b) 16 }

-- ---- the conclusions: the first for a literal counts
unfoldable pub put_conclusion : Noted → List ℕ → ℕ → Noted
put_conclusion n vs i =
    record {
      conclusions =
          record {
            firsts = set n.conclusions.firsts i (four_of vs 2);
            differences = set n.conclusions.differences i (two_of vs 10);
          };
      given = set n.given i 1;
    }

unfoldable pub wanted : List ℕ → ℕ → Bool
wanted given x = ltb 0 x && (leb x most_literals && eqb (get_or given (x - 1) 0) 0)

unfoldable pub noted : Noted → List ℕ → Noted
noted n vs = cond (wanted n.given (byte_of vs 1)) (put_conclusion n vs (byte_of vs 1 - 1)) n

-- ---- the parser

unfoldable pub with_head : Parser → ℕ → Parser
with_head p b = record { head = head_after p.head b; line = p.line; places = p.places; steps = p.steps; noted = p.noted }

unfoldable pub with_byte : Parser → ℕ → Parser
with_byte p b = record { head = p.head; line = pushed p.line b; places = p.places; steps = p.steps; noted = p.noted }

-- after the feed of the 08 line
unfoldable pub with_places : Parser → Parser
with_places p =
    record {
      head = record { phase = Grounds; size = p.head.size; start = p.head.start };
      line = empty_line;
      places = places_of p.line.good p.line.size p.line.values;
      steps = p.steps;
      noted = p.noted;
    }

-- after the feed of a later line
unfoldable pub with_conclusion : Parser → Parser
with_conclusion p = record { head = p.head; line = empty_line; places = p.places; steps = p.steps; noted = noted p.noted p.line.values }

unfoldable pub with_step : Parser → Parser
with_step p = record { head = p.head; line = empty_line; places = p.places; steps = grown p.steps (most_steps + 1); noted = p.noted }

-- a line without its feed
unfoldable pub unended : Parser → Parser
unended p = record { head = p.head; line = record { values = p.line.values; size = p.line.size; good = false }; places = p.places; steps = p.steps; noted = p.noted }

unfoldable pub no_conclusions : Noted
no_conclusions =
    record {
      conclusions = record { firsts = replicate most_literals 0; differences = replicate most_literals 0 };
      given = replicate most_literals 0;
    }

unfoldable pub fresh : Parser
fresh = record { head = record { phase = Start; size = 0; start = 0 }; line = open_line; places = replicate most_variables unused_place; steps = 0; noted = no_conclusions }

-- ---- the parser and the spaces

pub record Memory : Type 0 where
  pub parser : Parser
  pub text : List ℕ
  pub steps : List (List ℕ)

abbrev pub memory : Parser → List ℕ → List (List ℕ) → Memory
memory p t s = record { parser = p; text = t; steps = s }

-- the words of the line that was taken
abbrev pub words_at : Parser → List ℕ
words_at p = step_words p.line.good p.line.size p.line.values

unfoldable pub after_step : Memory → Memory
after_step m =
    let p : Parser = m.parser in
    memory (with_step p) m.text (set m.steps p.steps (words_at p))

unfoldable pub after_line : Memory → Memory
after_line m =
    cond (is_conclusion m.parser.line.good m.parser.line.size m.parser.line.values)
    (memory (with_conclusion m.parser) m.text m.steps)
    (after_step m)

-- a byte of the text, of the 08 line, of a later line
unfoldable pub taken_text : ℕ → Memory → Memory
taken_text b m = memory (with_head m.parser b) (set m.text m.parser.head.size b) m.steps

unfoldable pub taken_line : ℕ → Memory → Memory → Memory
taken_line b ended m = cond (eqb b 10) ended (memory (with_byte m.parser b) m.text m.steps)

abbrev pub taken_in : Phase → ℕ → Memory → Memory
taken_in Start b m = taken_text b m
taken_in Zero b m = taken_text b m
taken_in Inside b m = taken_text b m
taken_in Assignment b m = taken_line b (memory (with_places m.parser) m.text m.steps) m
taken_in Grounds b m = taken_line b (after_line m) m
taken_in Beyond b m = taken_line b (after_line m) m

unfoldable pub taken : ℕ → Memory → Memory
taken b m = taken_in m.parser.head.phase b m

unfoldable pub fed : List ℕ → Memory → Memory
fed [] m = m
fed (b ∷ l) m = fed l (taken b m)

-- whether a line of the grounds is open
abbrev pub in_grounds : Phase → Bool
in_grounds Start = false
in_grounds Zero = false
in_grounds Inside = false
in_grounds Assignment = false
in_grounds Grounds = true
in_grounds Beyond = false

unfoldable pub finished : Memory → Memory
finished m =
    cond (in_grounds m.parser.head.phase && ltb 0 m.parser.line.size) (after_step (memory (unended m.parser) m.text m.steps)) m

-- ---- what code does to them

pub record Becomes (m : Memory) (r : Parser) (text : List ℕ) (steps : List (List ℕ)) : Type 0 where
  pub same : memory r text steps ≡ m

-- whatever the text
pub record EndsBy (f : Memory → Memory) (p : Parser) (steps : List (List ℕ)) (r : Parser) (steps' : List (List ℕ)) : Type 0 where
  pub same : (text : List ℕ) → memory r text steps' ≡ f (memory p text steps)
