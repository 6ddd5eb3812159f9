-- The parser by each way out of the code.
--     mine    what the functions leave to show
-- Assumes nothing.
use mathlib.Core.Bool.{Bool, true, false, ◌&&◌, cond}
use mathlib.Core.List.{List, [], ◌∷◌, ◌++◌}
use mathlib.Core.Path.{◌≡◌, refl, ap, sym, ◌∙◌}
use Prim.Native.Nat.{ℕ, ◌+◌, ◌-◌, ◌*◌, ◌%◌, ◌≤◌, ◌<◌}
use native.Mathlib.Omega.{arith}
use native.Mathlib.Numerals.{add-one}
use lib.Dec.{eqb, ltb, leb}
use borrow.Author.Rules.{rules}
use borrow.Author.Tests.{eq-eqb, ne_eqb, lt-ltb, le-ltb, le-leb, lt-leb}
use lib.ListN.{length, get_or, take, set, replicate, length-set}
use lib.Seq.{set_out, take-suc, take_all}
use Rattle.meaning.specs.Text.{digit}
use Rattle.grounds_steps.specs.Steps.{words_of, most_steps}
use Rattle.grounds_intake.specs.Parsing.{byte_of, two_of, four_of, eight_of, assigns, place_of, places_of, formed, word_of}
use Rattle.grounds_intake.specs.Machine.{grown, phase_after, head_after, empty_line, open_line, pushed, put_conclusion, wanted, noted, with_head, with_byte, with_places, with_conclusion, with_step, unended, no_conclusions, fresh, Memory, memory, after_step, after_line, taken_text, taken_line, taken_in, taken, in_grounds, fed, finished, Becomes, EndsBy}
use Rattle.grounds_intake.specs.declared.Head.{Head}
use Rattle.grounds_intake.specs.declared.Buffer.{Buffer}
use Rattle.grounds_intake.specs.declared.Noted.{Noted}
use Rattle.grounds_intake.specs.declared.Parser.{Parser}
use Rattle.grounds_intake.specs.declared.Phase.{Phase}
use Rattle.grounds_intake.specs.declared.Phase.TheVariants.{Start, Zero, Inside, Assignment, Grounds, Beyond}

-- ---- bytes

pub byte-is : (vs : List ℕ) (i h l : ℕ) → h ≡ get_or vs (i * 2) 0 → l ≡ get_or vs (i * 2 + 1) 0 → (h * 16 + l) % 256 ≡ byte_of vs i
unfolding byte_of
byte-is vs i h l e f = rw (e, f)

module _ (vs : List ℕ) (i x y u w : ℕ) (g : u ≡ x) (h : w ≡ y) where
  pub two_is : x ≡ byte_of vs i → y ≡ byte_of vs (i + 1) → u * 256 + w ≡ two_of vs i
  unfolding two_of
  two_is e f = rw (g, h, e, f)

  pub four_is : x ≡ two_of vs i → y ≡ two_of vs (i + 2) → u * 65536 + w ≡ four_of vs i
  unfolding four_of
  four_is e f = rw (g, h, e, f)

  pub eight_is : x ≡ four_of vs i → y ≡ four_of vs (i + 4) → u * 4294967296 + w ≡ eight_of vs i
  unfolding eight_of
  eight_is e f = rw (g, h, e, f)

-- ---- spaces

pub grow-up : (n most : ℕ) → n < most → n + 1 ≡ grown n most
unfolding grown
grow-up n most h = rw (lt-ltb n most h)

pub grow-stay : (n most : ℕ) → most ≤ n → n ≡ grown n most
unfolding grown
grow-stay n most h = rw (le-ltb n most h)

pub put-past : (l : List ℕ) (at x : ℕ) → length l ≤ at → l ≡ set l at x
put-past l at x h = sym (set_out l at x h)

pub value-past : (l : List ℕ) (at x : ℕ) → length l ≡ 51 → 51 ≤ at → l ≡ set l at x
value-past l at x e h = sym (set_out l at x (omega arith))

-- ---- the text

module _ (p : Phase) (b : ℕ) where
  pub phase-feed : b ≡ 10 → Start ≡ phase_after p b
  unfolding phase_after
  phase-feed e = rw (eq-eqb b 10 e)

  module _ (f : b ≡ 10 → ⊥) where
    pub phase-zero : p ≡ Start → b ≡ 48 → Zero ≡ phase_after p b
    unfolding phase_after
    phase-zero e g = rw (ne_eqb b 10 f, e, eq-eqb b 48 g)

    pub phase-zero-other : p ≡ Start → (b ≡ 48 → ⊥) → Inside ≡ phase_after p b
    unfolding phase_after
    phase-zero-other e g = rw (ne_eqb b 10 f, e, ne_eqb b 48 g)

    pub phase-one : p ≡ Zero → b ≡ 56 → Assignment ≡ phase_after p b
    unfolding phase_after
    phase-one e g = rw (ne_eqb b 10 f, e, eq-eqb b 56 g)

    pub phase-one-other : p ≡ Zero → (b ≡ 56 → ⊥) → Inside ≡ phase_after p b
    unfolding phase_after
    phase-one-other e g = rw (ne_eqb b 10 f, e, ne_eqb b 56 g)

    pub phase-rest : (p ≡ Start → ⊥) → (p ≡ Zero → ⊥) → Inside ≡ phase_after p b
    unfolding phase_after
    phase-rest e g = go p refl
      where
        go : (q : Phase) → p ≡ q → Inside ≡ phase_after p b
        go Start i = absurd (e i)
        go Zero i = absurd (g i)
        go Inside i = rw (ne_eqb b 10 f, i)
        go Assignment i = rw (ne_eqb b 10 f, i)
        go Grounds i = rw (ne_eqb b 10 f, i)
        go Beyond i = rw (ne_eqb b 10 f, i)

module _ (h : Head) (b : ℕ) (p : Phase) (n : ℕ) (x : p ≡ phase_after h.phase b) (y : n ≡ grown h.size 16385) where
  pub advance-start : p ≡ Start → record { phase = p; size = n; start = n } ≡ head_after h b
  unfolding head_after
  advance-start e = rw (← x, ← y, e)

  pub advance-opens : p ≡ Assignment → record { phase = p; size = h.start; start = h.start } ≡ head_after h b
  unfolding head_after
  advance-opens e = rw (← x, ← y, e)

  pub advance-inside : (p ≡ Start → ⊥) → (p ≡ Assignment → ⊥) → record { phase = p; size = n; start = h.start } ≡ head_after h b
  unfolding head_after
  advance-inside f g = go p refl
    where
      go : (q : Phase) → p ≡ q → record { phase = p; size = n; start = h.start } ≡ head_after h b
      go Start i = absurd (f i)
      go Zero i = rw (← x, ← y, i)
      go Inside i = rw (← x, ← y, i)
      go Assignment i = absurd (g i)
      go Grounds i = rw (← x, ← y, i)
      go Beyond i = rw (← x, ← y, i)

-- ---- a line

pub push-is : (l : Buffer) (b v n : ℕ) (vs : List ℕ) (g : Bool) → v ≡ digit b → vs ≡ set l.values l.size v → n ≡ grown l.size 51 → g ≡ (l.good && ltb v 16)
    → record { values = vs; size = n; good = g } ≡ pushed l b
unfolding pushed
push-is l b v n vs g x y z w = rw (y, z, w, x)

pub push-good : (l : Buffer) (b v n : ℕ) (vs : List ℕ) (g : Bool) → v ≡ digit b → vs ≡ set l.values l.size v → n ≡ grown l.size 51 → l.good ≡ true → g ≡ ltb v 16
    → record { values = vs; size = n; good = g } ≡ pushed l b
push-good l b v n vs g x y z w u = push-is l b v n vs g x y z (u ∙ rw w)

pub push-bad : (l : Buffer) (b v n : ℕ) (vs : List ℕ) (g : Bool) → v ≡ digit b → vs ≡ set l.values l.size v → n ≡ grown l.size 51 → l.good ≡ false → g ≡ l.good
    → record { values = vs; size = n; good = g } ≡ pushed l b
push-bad l b v n vs g x y z w u = push-is l b v n vs g x y z (u ∙ rw w)

module _ (good : Bool) (size : ℕ) (vs : List ℕ) where
  module _ (kind long : ℕ) where
    pub formed-bad : (r : Bool) → good ≡ false → r ≡ good → r ≡ formed kind long good size vs
    unfolding formed
    formed-bad r e f = f ∙ rw e

    pub formed-size : (r : Bool) → good ≡ true → (size ≡ long → ⊥) → r ≡ eqb size long → r ≡ formed kind long good size vs
    unfolding formed
    formed-size r e h f = f ∙ rw (e, ne_eqb size long h)

    pub formed-is : (x : ℕ) → good ≡ true → size ≡ long → x ≡ byte_of vs 0 → eqb x kind ≡ formed kind long good size vs
    unfolding formed
    formed-is x e h f = rw (e, eq-eqb size long h, f)

  pub word_none : (i : ℕ) (b : Bool) → b ≡ formed 176 50 good size vs → b ≡ false → 0 ≡ word_of good size vs i
  unfolding word_of
  word_none i b e h = rw (← e, h)

  pub word-is : (i : ℕ) (b : Bool) (x : ℕ) → b ≡ formed 176 50 good size vs → b ≡ true → x ≡ eight_of vs (i * 8 + 1) → x ≡ word_of good size vs i
  unfolding word_of
  word-is i b x e h f = rw (← e, h) f

  module _ (m n : ℕ) (i : m ≡ byte_of vs 1) (f : n ≡ m) where
    pub assigns-bad : (r : Bool) → good ≡ false → r ≡ good → r ≡ assigns good size vs
    unfolding assigns
    assigns-bad r e g = g ∙ rw e

    pub assigns-many : (r : Bool) → good ≡ true → 4 < n → r ≡ leb n 4 → r ≡ assigns good size vs
    unfolding assigns
    assigns-many r e h g = g ∙ rw (e, ← i, ← f, lt-leb n 4 h)

    pub assigns-is : good ≡ true → n ≤ 4 → eqb size (n * 2 + 4) ≡ assigns good size vs
    unfolding assigns
    assigns-is e h = rw (e, ← i, ← f, le-leb n 4 h)

  module _ (i : ℕ) (b : Bool) (e : b ≡ assigns good size vs) where
    pub place_none : b ≡ false → 255 ≡ place_of good size vs i
    unfolding place_of
    place_none h = rw (← e, h)

    module _ (m n : ℕ) (h : b ≡ true) (f : m ≡ byte_of vs 1) (g : n ≡ m) where
      pub place-past : n ≤ i → 255 ≡ place_of good size vs i
      unfolding place_of
      place-past k = rw (← e, h, ← f, ← g, le-ltb i n k)

      pub place_is : (x y : ℕ) → i < n → x ≡ byte_of vs (i + 2) → y ≡ x → y ≡ place_of good size vs i
      unfolding place_of
      place_is x y k u w = rw (← e, h, ← f, ← g, lt-ltb i n k) (w ∙ u)

  pub places-are : (a b c d : ℕ) → a ≡ place_of good size vs 0 → b ≡ place_of good size vs 1 → c ≡ place_of good size vs 2 → d ≡ place_of good size vs 3
      → a ∷ b ∷ c ∷ d ∷ [] ≡ places_of good size vs
  unfolding places_of
  places-are a b c d e f g h = rw (e, f, g, h)

-- ---- the conclusions

module _ (n : Noted) (vs : List ℕ) (y x : ℕ) (e : y ≡ byte_of vs 1) (d : x ≡ y) where
  pub note-zero : x ≡ 0 → n ≡ noted n vs
  unfolding noted wanted
  note-zero h = rw (← e, ← d, le-ltb 0 x (omega arith))

  pub note-high : 16 < x → n ≡ noted n vs
  unfolding noted wanted
  note-high h = rw (← e, ← d, lt-ltb 0 x (omega arith), lt-leb x 16 h)

  pub note-again : (x ≡ 0 → ⊥) → x ≤ 16 → (get_or n.given (x - 1) 0 ≡ 0 → ⊥) → n ≡ noted n vs
  unfolding noted wanted
  note-again f h k = rw (← e, ← d, lt-ltb 0 x (omega arith), le-leb x 16 h, ne_eqb (get_or n.given (x - 1) 0) 0 k)

  pub note-first : (x ≡ 0 → ⊥) → x ≤ 16 → get_or n.given (x - 1) 0 ≡ 0 → (a b : ℕ) → a ≡ four_of vs 2 → b ≡ two_of vs 10
      → record {
        conclusions =
            record {
              firsts = set n.conclusions.firsts (x - 1) a;
              differences = set n.conclusions.differences (x - 1) b;
            };
        given = set n.given (x - 1) 1;
      } ≡ noted n vs
  unfolding noted wanted put_conclusion
  note-first f h k a b g i = rw (← e, ← d, lt-ltb 0 x (omega arith), le-leb x 16 h, eq-eqb (get_or n.given (x - 1) 0) 0 k, g, i)

-- ---- the parser

pub start_is : (l : Buffer) (n : Noted) → l ≡ open_line → n ≡ no_conclusions
    → record { head = record { phase = Start; size = 0; start = 0 }; line = l; places = replicate 4 255; steps = 0; noted = n } ≡ fresh
unfolding fresh
start_is l n e f = rw (e, f)

pub with-head : (p : Parser) (b : ℕ) (h : Head) → h ≡ head_after p.head b
    → record { head = h; line = p.line; places = p.places; steps = p.steps; noted = p.noted } ≡ with_head p b
unfolding with_head
with-head p b h e = rw e

pub with_byte_lem : (p : Parser) (b : ℕ) (l : Buffer) → l ≡ pushed p.line b
    → record { head = p.head; line = l; places = p.places; steps = p.steps; noted = p.noted } ≡ with_byte p b
unfolding with_byte
with_byte_lem p b l e = rw e

pub with-places : (p : Parser) (l : Buffer) (a : List ℕ) → l ≡ empty_line → a ≡ places_of p.line.good p.line.size p.line.values
    → record { head = record { phase = Grounds; size = p.head.size; start = p.head.start }; line = l; places = a; steps = p.steps; noted = p.noted } ≡ with_places p
unfolding with_places
with-places p l a e f = rw (e, f)

pub with-conclusion : (p : Parser) (l : Buffer) (n : Noted) → l ≡ empty_line → n ≡ noted p.noted p.line.values
    → record { head = p.head; line = l; places = p.places; steps = p.steps; noted = n } ≡ with_conclusion p
unfolding with_conclusion
with-conclusion p l n e f = rw (e, f)

pub with-step : (p : Parser) (l : Buffer) (n : ℕ) → l ≡ empty_line → n ≡ grown p.steps (most_steps + 1)
    → record { head = p.head; line = l; places = p.places; steps = n; noted = p.noted } ≡ with_step p
unfolding with_step
with-step p l n e f = rw (e, f)

-- ---- a byte, by where the parser stands

module _ (b : ℕ) (m : Memory) where
  in-text : (q : Phase) → (q ≡ Assignment → ⊥) → (q ≡ Grounds → ⊥) → (q ≡ Beyond → ⊥) → taken_in q b m ≡ taken_text b m
  in-text Start f g h = refl
  in-text Zero f g h = refl
  in-text Inside f g h = refl
  in-text Assignment f g h = absurd (f refl)
  in-text Grounds f g h = absurd (g refl)
  in-text Beyond f g h = absurd (h refl)

  in-opening : (q : Phase) → q ≡ Assignment → taken_in q b m ≡ taken_line b (memory (with_places m.parser) m.text m.steps) m
  in-opening q e = rw e

  in-later : (q : Phase) → q ≡ Grounds → taken_in q b m ≡ taken_line b (after_line m) m
  in-later q e = rw e

  in-beyond : (q : Phase) → q ≡ Beyond → taken_in q b m ≡ taken_line b (after_line m) m
  in-beyond q e = rw e

  at-feed : (n : Memory) → b ≡ 10 → taken_line b n m ≡ n
  unfolding taken_line
  at-feed n e = rw (eq-eqb b 10 e)

  at-other : (n : Memory) → (b ≡ 10 → ⊥) → taken_line b n m ≡ memory (with_byte m.parser b) m.text m.steps
  unfolding taken_line
  at-other n e = rw (ne_eqb b 10 e)

  pub taken-text : (m.parser.head.phase ≡ Assignment → ⊥) → (m.parser.head.phase ≡ Grounds → ⊥) → (m.parser.head.phase ≡ Beyond → ⊥)
      → taken b m ≡ memory (with_head m.parser b) (set m.text m.parser.head.size b) m.steps
  unfolding taken taken_text
  taken-text f g h = in-text m.parser.head.phase f g h

  pub taken-opening : m.parser.head.phase ≡ Assignment → (b ≡ 10 → ⊥) → taken b m ≡ memory (with_byte m.parser b) m.text m.steps
  unfolding taken
  taken-opening h e = in-opening m.parser.head.phase h ∙ at-other _ e

  pub taken_places : m.parser.head.phase ≡ Assignment → b ≡ 10 → taken b m ≡ memory (with_places m.parser) m.text m.steps
  unfolding taken
  taken_places h e = in-opening m.parser.head.phase h ∙ at-feed _ e

  pub taken-byte : m.parser.head.phase ≡ Grounds → (b ≡ 10 → ⊥) → taken b m ≡ memory (with_byte m.parser b) m.text m.steps
  unfolding taken
  taken-byte h e = in-later m.parser.head.phase h ∙ at-other _ e

  pub taken-line : m.parser.head.phase ≡ Grounds → b ≡ 10 → taken b m ≡ after_line m
  unfolding taken
  taken-line h e = in-later m.parser.head.phase h ∙ at-feed _ e

  taken-beyond-byte : m.parser.head.phase ≡ Beyond → (b ≡ 10 → ⊥) → taken b m ≡ memory (with_byte m.parser b) m.text m.steps
  unfolding taken
  taken-beyond-byte h e = in-beyond m.parser.head.phase h ∙ at-other _ e

  taken-beyond-line : m.parser.head.phase ≡ Beyond → b ≡ 10 → taken b m ≡ after_line m
  unfolding taken
  taken-beyond-line h e = in-beyond m.parser.head.phase h ∙ at-feed _ e

in-grounds : (q : Phase) → q ≡ Grounds → in_grounds q ≡ true
in-grounds q e = rw e

not-grounds : (q : Phase) → (q ≡ Grounds → ⊥) → in_grounds q ≡ false
not-grounds Start f = refl
not-grounds Zero f = refl
not-grounds Inside f = refl
not-grounds Assignment f = refl
not-grounds Grounds f = absurd (f refl)
not-grounds Beyond f = refl

module _ (m : Memory) where
  pub unended-not : (m.parser.head.phase ≡ Grounds → ⊥) → finished m ≡ m
  unfolding finished
  unended-not h = rw (not-grounds m.parser.head.phase h)

  pub unended-none : m.parser.head.phase ≡ Grounds → m.parser.line.size ≡ 0 → finished m ≡ m
  unfolding finished
  unended-none e h = rw (in-grounds m.parser.head.phase e, le-ltb 0 m.parser.line.size (omega arith))

  pub unended-step : m.parser.head.phase ≡ Grounds → 0 < m.parser.line.size → finished m ≡ after_step (memory (unended m.parser) m.text m.steps)
  unfolding finished
  unended-step e h = rw (in-grounds m.parser.head.phase e, lt-ltb 0 m.parser.line.size h)

module _ (p : Parser) (ss : List (List ℕ)) (r : Parser) (ss' : List (List ℕ)) where
  pub add_step : (x y z at : ℕ) → x ≡ word_of p.line.good p.line.size p.line.values 0 → y ≡ word_of p.line.good p.line.size p.line.values 1
      → z ≡ word_of p.line.good p.line.size p.line.values 2
      → at ≡ p.steps
      → ss' ≡ set ss at (words_of x y z)
      → r ≡ with_step p
      → EndsBy after_step p ss r ss'
  unfolding after_step
  add_step x y z at e f g a s h = record { same = λ text. rw (h, s, a, e, f, g) }

  pub end_step : (b : Bool) → b ≡ formed 177 26 p.line.good p.line.size p.line.values → b ≡ false → EndsBy after_step p ss r ss'
      → EndsBy after_line p ss r ss'
  unfolding after_line
  end_step b e h w = record { same = λ text. rw (← e, h) (w.same text) }

  pub take-line : (text : List ℕ) (b : ℕ) → p.head.phase ≡ Grounds → b ≡ 10 → EndsBy after_line p ss r ss' → Becomes (taken b (memory p text ss)) r text ss'
  take-line text b h e w = record { same = w.same text ∙ sym (taken-line b (memory p text ss) h e) }

  pub take-beyond-line : (text : List ℕ) (b : ℕ) → p.head.phase ≡ Beyond → b ≡ 10 → EndsBy after_line p ss r ss' → Becomes (taken b (memory p text ss)) r text ss'
  take-beyond-line text b h e w = record { same = w.same text ∙ sym (taken-beyond-line b (memory p text ss) h e) }

  -- the line without its feed
  abbrev cut : Parser
  cut =
      record {
        head = p.head;
        line = record { values = p.line.values; size = p.line.size; good = false };
        places = p.places;
        steps = p.steps;
        noted = p.noted;
      }

  cut-is : cut ≡ unended p
  unfolding unended
  cut-is = refl

  pub finish-step : p.head.phase ≡ Grounds → (p.line.size ≡ 0 → ⊥) → EndsBy after_step cut ss r ss' → EndsBy finished p ss r ss'
  finish-step e h w =
      record {
        same = λ text. w.same text
            ∙ ap (λ (x : Parser). after_step (memory x text ss)) cut-is
            ∙ sym (unended-step (memory p text ss) e (omega arith));
      }

module _ (p : Parser) (ss : List (List ℕ)) where
  pub end-conclusion : (r : Parser) (b : Bool) → b ≡ formed 177 26 p.line.good p.line.size p.line.values → b ≡ true → r ≡ with_conclusion p
      → EndsBy after_line p ss r ss
  unfolding after_line
  end-conclusion r b e h f = record { same = λ text. rw (← e, h, f) }

  pub finish-not : (p.head.phase ≡ Grounds → ⊥) → EndsBy finished p ss p ss
  finish-not h = record { same = λ text. sym (unended-not (memory p text ss) h) }

  pub finish-empty : p.head.phase ≡ Grounds → p.line.size ≡ 0 → EndsBy finished p ss p ss
  finish-empty e h = record { same = λ text. sym (unended-none (memory p text ss) e h) }

  module _ (text : List ℕ) (b : ℕ) (r : Parser) where
    pub take-text : (text' : List ℕ) → (p.head.phase ≡ Assignment → ⊥) → (p.head.phase ≡ Grounds → ⊥) → (p.head.phase ≡ Beyond → ⊥) → text' ≡ set text p.head.size b → r ≡ with_head p b
        → Becomes (taken b (memory p text ss)) r text' ss
    take-text text' h k l e f = record { same = rw (e, f) (sym (taken-text b (memory p text ss) h k l)) }

    pub take-opening : p.head.phase ≡ Assignment → (b ≡ 10 → ⊥) → r ≡ with_byte p b → Becomes (taken b (memory p text ss)) r text ss
    take-opening h e f = record { same = rw f (sym (taken-opening b (memory p text ss) h e)) }

    pub take-byte : p.head.phase ≡ Grounds → (b ≡ 10 → ⊥) → r ≡ with_byte p b → Becomes (taken b (memory p text ss)) r text ss
    take-byte h e f = record { same = rw f (sym (taken-byte b (memory p text ss) h e)) }

    pub take-beyond-byte : p.head.phase ≡ Beyond → (b ≡ 10 → ⊥) → r ≡ with_byte p b → Becomes (taken b (memory p text ss)) r text ss
    take-beyond-byte h e f = record { same = rw f (sym (taken-beyond-byte b (memory p text ss) h e)) }

    pub take_places : p.head.phase ≡ Assignment → b ≡ 10 → r ≡ with_places p → Becomes (taken b (memory p text ss)) r text ss
    take_places h e f = record { same = rw f (sym (taken_places b (memory p text ss) h e)) }

-- ---- the spaces keep their lengths

pub record Alike (m n : Memory) : Type 0 where
  pub text : length n.text ≡ length m.text
  pub steps : length n.steps ≡ length m.steps

alike-cond : (m x y : Memory) (b : Bool) → Alike m x → Alike m y → Alike m (cond b x y)
alike-cond m x y true p q = p
alike-cond m x y false p q = q

step-alike : (m : Memory) → Alike m (after_step m)
unfolding after_step
step-alike m = record { text = refl; steps = simp length-set }

line-alike : (m : Memory) → Alike m (after_line m)
unfolding after_line
line-alike m =
    alike-cond m _ _ (formed 177 26 m.parser.line.good m.parser.line.size m.parser.line.values) (record { text = refl; steps = refl })
    (step-alike m)

text-alike : (b : ℕ) (m : Memory) → Alike m (taken_text b m)
unfolding taken_text
text-alike b m = record { text = simp length-set; steps = refl }

ended-alike : (b : ℕ) (m n : Memory) → Alike m n → Alike m (taken_line b n m)
unfolding taken_line
ended-alike b m n w = alike-cond m _ _ (eqb b 10) w (record { text = refl; steps = refl })

taken-alike : (b : ℕ) (m : Memory) → Alike m (taken b m)
unfolding taken
taken-alike b m = go m.parser.head.phase
  where
    go : (q : Phase) → Alike m (taken_in q b m)
    go Start = text-alike b m
    go Zero = text-alike b m
    go Inside = text-alike b m
    go Assignment = ended-alike b m _ (record { text = refl; steps = refl })
    go Grounds = ended-alike b m _ (line-alike m)
    go Beyond = ended-alike b m _ (line-alike m)

pub fed-alike : (l : List ℕ) (m : Memory) → Alike m (fed l m)
unfolding fed
fed-alike [] m = record { text = refl; steps = refl }
fed-alike (b ∷ l) m =
    let p : Alike m (taken b m) = taken-alike b m in
    let q : Alike (taken b m) (fed l (taken b m)) = fed-alike l (taken b m) in
    record { text = q.text ∙ p.text; steps = q.steps ∙ p.steps }

-- ---- the pieces

pub fed-snoc : (l : List ℕ) (b : ℕ) (m : Memory) → fed (l ++ (b ∷ [])) m ≡ taken b (fed l m)
unfolding fed
fed-snoc [] b m = refl
fed-snoc (a ∷ l) b m = fed-snoc l b (taken a m)

-- the first k bytes of a piece are taken
pub record Feeding (m : Memory) (piece : List ℕ) (k : ℕ) (q : Parser) (text : List ℕ) (ss : List (List ℕ)) : Type 0 where
  pub within : k ≤ length piece
  pub same : memory q text ss ≡ fed (take k piece) m

pub feeding-step : {m : Memory} {piece : List ℕ} {k : ℕ} {q : Parser} {text : List ℕ} {ss : List (List ℕ)} {r : Parser} {text' : List ℕ} {ss' : List (List ℕ)} → Feeding m piece k q text ss
    → k < length piece
    → Becomes (taken (get_or piece k 0) (memory q text ss)) r text' ss'
    → Feeding m piece (k + 1) r text' ss'
feeding-step {m} {piece} {k} w h s =
    record {
      within = omega arith;
      same =
          s.same
          ∙ ap (taken (get_or piece k 0)) w.same
          ∙ sym (fed-snoc (take k piece) (get_or piece k 0) m)
          ∙ rw (add-one k, take-suc piece k 0 h);
    }

pub feeding-start : (m : Memory) (piece : List ℕ) (q : Parser) (text : List ℕ) (ss : List (List ℕ)) → memory q text ss ≡ m
    → Feeding m piece 0 q text ss
unfolding fed
feeding-start m piece q text ss e = record { within = omega arith; same = e }

module _ (p : Parser) (piece : List ℕ) (k : ℕ) (q : Parser) (text : List ℕ) (ss : List (List ℕ)) (text' : List ℕ) (ss' : List (List ℕ))
    (w : Feeding (memory p text ss) piece k q text' ss') where
  pub text-long : length text' ≡ length text
  text-long = ap (λ (m : Memory). length m.text) w.same ∙ (fed-alike (take k piece) (memory p text ss)).text

  pub steps-long : length ss' ≡ length ss
  steps-long = ap (λ (m : Memory). length m.steps) w.same ∙ (fed-alike (take k piece) (memory p text ss)).steps

pub feeding-done : (m : Memory) (piece : List ℕ) (k : ℕ) (q : Parser) (text : List ℕ) (ss : List (List ℕ)) → Feeding m piece k q text ss → length piece ≤ k
    → Becomes (fed piece m) q text ss
feeding-done m piece k q text ss w h = record { same = w.same ∙ rw (take_all k piece h) }

pub ruleset bytes = (byte-is, two_is, four_is, eight_is)

pub ruleset mine = (
  rules,
  grow-up,
  grow-stay,
  put-past,
  value-past,
  push-good,
  push-bad,
  formed-bad,
  formed-size,
  formed-is,
  word_none,
  word-is,
  assigns-bad,
  assigns-many,
  assigns-is,
  place_none,
  place-past,
  place_is,
  places-are,
  note-zero,
  note-high,
  note-again,
  note-first,
  start_is,
  with-places,
)

pub ruleset phases = (
  phase-feed,
  phase-zero,
  phase-zero-other,
  phase-one,
  phase-one-other,
  phase-rest,
  advance-start,
  advance-opens,
  advance-inside,
)

pub ruleset ends = (
  rules,
  with-head,
  with_byte_lem,
  with-conclusion,
  with-step,
  add_step,
  end_step,
  end-conclusion,
  take-line,
  take-beyond-line,
  finish-step,
  finish-not,
  finish-empty,
  take-text,
  take-opening,
  take-byte,
  take-beyond-byte,
  take_places,
  feeding-start,
  feeding-step,
  feeding-done,
  text-long,
  steps-long,
)
