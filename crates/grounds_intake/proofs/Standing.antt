-- What the parser holds after some bytes is what the definitions read off them.
--     Stands                              a memory holds what the bytes so far say
--     stands-start, stands-taken, stands-fed    at the start, after one byte more, after some
--     Parsed, parsed                      what it holds after the last byte
-- Assumes nothing.
use mathlib.Core.Bool.{Bool, true, false}
use mathlib.Core.List.{List, [], ◌∷◌, ◌++◌, append_assoc, append-nil}
use mathlib.Core.Path.{◌≡◌, refl, ap, sym, ◌∙◌, subst}
use Prim.Native.Nat.{ℕ, suc, ◌+◌, ◌≤◌, ◌<◌}
use native.Mathlib.Omega.{arith}
use lib.Dec.{eqb, ltb}
use borrow.Author.Tests.{ne_eqb, eqb-true, eqb-false, ltb-true, ltb-false}
use lib.ListN.{length, drop, set, replicate, length-append}
use lib.Seq.{drop-append_seam, drop-length}
use Rattle.meaning.specs.Text.{Line, lines_from, lines_of}
use Rattle.meaning.specs.Grounds.{Conclusion}
use Rattle.meaning.specs.Replies.{input_limit}
use Rattle.runs.specs.Limits.{most_variables, unused_place}
use Rattle.grounds_steps.specs.Steps.{words_of, most_steps}
use Rattle.text_lines.proofs.Breaks.{from_cons, feed-ends}
use Rattle.grounds_intake.specs.Parsing.{begins, text_part, text_of, ground_lines, good_line, digits_of, assigns, place_of, places_of, places_in, formed, word_of, step_words, steps_in, concludes, conclusion_of, conclusions_in}
use Rattle.grounds_intake.specs.Machine.{grown, phase_after, head_after, open_line, with_head, with_byte, with_places, with_conclusion, with_step, unended, noted, fresh, Memory, memory, after_step, after_line, taken, fed, finished}
use Rattle.grounds_intake.specs.declared.Head.{Head}
use Rattle.grounds_intake.specs.declared.Buffer.{Buffer}
use Rattle.grounds_intake.specs.declared.Parser.{Parser}
use Rattle.grounds_intake.specs.declared.Phase.{Phase}
use Rattle.grounds_intake.specs.declared.Phase.TheVariants.{Start, Zero, Inside, Assignment, Grounds, Beyond}
use Rattle.grounds_intake.proofs.Ways.{phase-feed, phase-zero, phase-zero-other, phase-one, phase-one-other, phase-rest, taken-text, taken-opening, taken_places, taken-byte, taken-line, unended-not, unended-none, unended-step}
use Rattle.grounds_intake.proofs.Filled.{Sized, sized-more, Stored, stored_more, stored-front}
use Rattle.grounds_intake.proofs.Lined.{Buffered, buffered-empty, buffered-open, buffered-push, formed-same, word_same, places_same, noted-same}
use Rattle.grounds_intake.proofs.Noting.{Notes, notes-none, notes-more}

-- ---- lines one by one

abbrev line_words : Line → List ℕ
line_words l = step_words (good_line l) (length l.bytes) (digits_of l)

snoc-steps : (ls : List Line) (l : Line) → steps_in (ls ++ (l ∷ [])) ≡ steps_in ls ++ steps_in (l ∷ [])
unfolding steps_in
snoc-steps [] l = refl
snoc-steps (k ∷ ls) l = go (concludes k) refl (snoc-steps ls l)
  where
    go : (c : Bool) → concludes k ≡ c → steps_in (ls ++ (l ∷ [])) ≡ steps_in ls ++ steps_in (l ∷ [])
        → steps_in (k ∷ (ls ++ (l ∷ []))) ≡ steps_in (k ∷ ls) ++ steps_in (l ∷ [])
    go true e ih = rw e ih
    go false e ih = rw e (ap (λ (x : List (List ℕ)). line_words k ∷ x) ih)

snoc-conclusions : (ls : List Line) (l : Line) → conclusions_in (ls ++ (l ∷ [])) ≡ conclusions_in ls ++ conclusions_in (l ∷ [])
unfolding conclusions_in
snoc-conclusions [] l = refl
snoc-conclusions (k ∷ ls) l = go (concludes k) refl (snoc-conclusions ls l)
  where
    go : (c : Bool) → concludes k ≡ c → conclusions_in (ls ++ (l ∷ [])) ≡ conclusions_in ls ++ conclusions_in (l ∷ [])
        → conclusions_in (k ∷ (ls ++ (l ∷ []))) ≡ conclusions_in (k ∷ ls) ++ conclusions_in (l ∷ [])
    go true e ih = rw e (ap (λ (x : List Conclusion). conclusion_of (digits_of k) ∷ x) ih)
    go false e ih = rw e ih

-- one conclusion, or one step
module _ (l : Line) where
  hit-steps : concludes l ≡ true → steps_in (l ∷ []) ≡ []
  unfolding steps_in
  hit-steps e = rw e

  hit-conclusions : concludes l ≡ true → conclusions_in (l ∷ []) ≡ conclusion_of (digits_of l) ∷ []
  unfolding conclusions_in
  hit-conclusions e = rw e

  miss-steps : concludes l ≡ false → steps_in (l ∷ []) ≡ line_words l ∷ []
  unfolding steps_in
  miss-steps e = rw e

  miss-conclusions : concludes l ≡ false → conclusions_in (l ∷ []) ≡ []
  unfolding conclusions_in
  miss-conclusions e = rw e

-- ---- what later lines leave behind

pub record Gathered (ls : List Line) (m : Memory) : Type 0 where
  pub counted : Sized (most_steps + 1) (length (steps_in ls)) m.parser.steps
  pub stored : Stored [] most_steps m.steps (steps_in ls)
  pub notes : Notes m.parser.noted (conclusions_in ls)

module _ (ls : List Line) (l : Line) (m : Memory) (w : Gathered ls m) where
  gathered-conclusion : (p : Parser) → concludes l ≡ true → p.steps ≡ m.parser.steps → p.noted ≡ noted m.parser.noted (digits_of l)
      → Gathered (ls ++ (l ∷ [])) (memory p m.text m.steps)
  gathered-conclusion p e s n =
      record {
        counted = rw (kept, s) w.counted;
        stored = rw kept w.stored;
        notes = rw (snoc-conclusions ls l ∙ ap (λ (x : List Conclusion). conclusions_in ls ++ x) (hit-conclusions l e), n) (notes-more m.parser.noted (conclusions_in ls) w.notes (digits_of l));
      }
    where
      kept : steps_in (ls ++ (l ∷ [])) ≡ steps_in ls
      kept = snoc-steps ls l ∙ ap (λ (x : List (List ℕ)). steps_in ls ++ x) (hit-steps l e) ∙ append-nil (steps_in ls)

  gathered-step : (p : Parser) (words : List ℕ) → concludes l ≡ false → words ≡ line_words l → p.steps ≡ grown m.parser.steps (most_steps + 1)
      → p.noted ≡ m.parser.noted
      → Gathered (ls ++ (l ∷ [])) (memory p m.text (set m.steps m.parser.steps words))
  gathered-step p words e ew s n =
      record {
        counted = rw (more, s, length-append (steps_in ls) (line_words l ∷ [])) (sized-more (most_steps + 1) (length (steps_in ls)) m.parser.steps w.counted);
        stored = rw (more, ew) (stored_more [] most_steps m.steps (steps_in ls) m.parser.steps (line_words l) w.counted w.stored);
        notes = rw (snoc-conclusions ls l ∙ ap (λ (d : List Conclusion). conclusions_in ls ++ d) (miss-conclusions l e) ∙ append-nil (conclusions_in ls), n) w.notes;
      }
    where
      more : steps_in (ls ++ (l ∷ [])) ≡ steps_in ls ++ (line_words l ∷ [])
      more = snoc-steps ls l ∙ ap (λ (d : List (List ℕ)). steps_in ls ++ d) (miss-steps l e)

-- ---- the text part

part-inside : (b : ℕ) (rest : List ℕ) → text_part false (b ∷ rest) ≡ b ∷ text_part (eqb b 10) rest
unfolding text_part
part-inside b rest = refl

part-fresh : (b : ℕ) (rest : List ℕ) → (b ≡ 48 → ⊥) → text_part true (b ∷ rest) ≡ b ∷ text_part (eqb b 10) rest
unfolding text_part begins
part-fresh b [] h = refl
part-fresh b (c ∷ rest) h = rw (ne_eqb b 48 h)

part-zero : (b : ℕ) (rest : List ℕ) → (b ≡ 56 → ⊥) → text_part true (48 ∷ b ∷ rest) ≡ 48 ∷ b ∷ text_part (eqb b 10) rest
unfolding text_part begins
part-zero b rest h = rw (ne_eqb b 56 h)

part-open : (rest : List ℕ) → text_part true (48 ∷ 56 ∷ rest) ≡ []
unfolding text_part begins
part-open rest = refl

part-last : text_part true (48 ∷ []) ≡ 48 ∷ []
unfolding text_part begins
part-last = refl

part_none : (k : Bool) → text_part k [] ≡ []
unfolding text_part
part_none k = refl

-- what is still to come decides on from where in a line
abbrev Goes : List ℕ → Bool → Type 0
Goes done k = (rest : List ℕ) → text_part true (done ++ rest) ≡ done ++ text_part k rest

goes_on : (done : List ℕ) (b : ℕ) (k k' : Bool) → Goes done k → ((rest : List ℕ) → text_part k (b ∷ rest) ≡ b ∷ text_part k' rest) → Goes (done ++ (b ∷ [])) k'
goes_on done b k k' f g rest =
    ap (text_part true) (append_assoc done (b ∷ []) rest)
    ∙ f (b ∷ rest)
    ∙ ap (λ (x : List ℕ). done ++ x) (g rest)
    ∙ sym (append_assoc done (b ∷ []) (text_part k' rest))

-- after a digit 0 at a line's start
abbrev Waits : List ℕ → List ℕ → Type 0
Waits done t = (rest : List ℕ) → text_part true (done ++ rest) ≡ t ++ text_part true (48 ∷ rest)

waits-on : (done t : List ℕ) (b : ℕ) (k : Bool) → done ≡ t ++ (48 ∷ []) → Waits done t → ((rest : List ℕ) → text_part true (48 ∷ b ∷ rest) ≡ 48 ∷ b ∷ text_part k rest)
    → Goes (done ++ (b ∷ [])) k
waits-on done t b k e f g rest =
    ap (text_part true) (append_assoc done (b ∷ []) rest)
    ∙ f (b ∷ rest)
    ∙ ap (λ (x : List ℕ). t ++ x) (g rest)
    ∙ sym (append_assoc done (b ∷ []) (text_part k rest) ∙ ap (λ (x : List ℕ). x ++ (b ∷ text_part k rest)) e ∙ append_assoc t (48 ∷ []) (b ∷ text_part k rest))

-- where in the text the parser stands
pub data Reading (done : List ℕ) (h : Head) : Type 0 where
  at-start : h.phase ≡ Start → h.start ≡ h.size → Goes done true → Reading done h
  after-zero : h.phase ≡ Zero → (t : List ℕ) → done ≡ t ++ (48 ∷ []) → Sized (input_limit + 1) (length t) h.start → Waits done t → Reading done h
  inside : h.phase ≡ Inside → Goes done false → Reading done h

-- ---- the text and the lines after it

pub record Cut (done t : List ℕ) (ls : List Line) (bytes : List ℕ) : Type 0 where
  pub text : (rest : List ℕ) → text_part true (done ++ rest) ≡ t
  pub lines : (rest : List ℕ) → lines_of (drop (length t) (done ++ rest)) ≡ ls ++ lines_from bytes rest

cut-open : (done t : List ℕ) → done ≡ t ++ (48 ∷ []) → Waits done t → Cut (done ++ (56 ∷ [])) t [] (48 ∷ 56 ∷ [])
unfolding lines_of
cut-open done t e f =
    record {
      text = λ rest.
          ap (text_part true) (append_assoc done (56 ∷ []) rest) ∙ f (56 ∷ rest) ∙ ap (λ (x : List ℕ). t ++ x) (part-open rest) ∙ append-nil t;
      lines = λ rest.
          ap (λ (x : List ℕ). lines_from [] (drop (length t) x)) (append_assoc done (56 ∷ []) rest ∙ ap (λ (x : List ℕ). x ++ (56 ∷ rest)) e ∙ append_assoc t (48 ∷ []) (56 ∷ rest))
          ∙ ap (lines_from []) (drop-append_seam t (48 ∷ 56 ∷ rest))
          ∙ from_cons [] 48 (56 ∷ rest) refl
          ∙ from_cons (48 ∷ []) 56 rest refl;
    }

module _ (done t : List ℕ) (ls : List Line) (bytes : List ℕ) (w : Cut done t ls bytes) where
  cut-text : (b : ℕ) (rest : List ℕ) → text_part true ((done ++ (b ∷ [])) ++ rest) ≡ t
  cut-text b rest = ap (text_part true) (append_assoc done (b ∷ []) rest) ∙ w.text (b ∷ rest)

  cut-lines : (b : ℕ) (rest : List ℕ) → lines_of (drop (length t) ((done ++ (b ∷ [])) ++ rest)) ≡ ls ++ lines_from bytes (b ∷ rest)
  cut-lines b rest = ap (λ (x : List ℕ). lines_of (drop (length t) x)) (append_assoc done (b ∷ []) rest) ∙ w.lines (b ∷ rest)

  cut_on : (b : ℕ) → (b ≡ 10 → ⊥) → Cut (done ++ (b ∷ [])) t ls (bytes ++ (b ∷ []))
  cut_on b h = record { text = cut-text b; lines = λ rest. cut-lines b rest ∙ ap (λ (x : List Line). ls ++ x) (from_cons bytes b rest (ne_eqb b 10 h)) }

  cut-feed : Cut (done ++ (10 ∷ [])) t (ls ++ (record { bytes = bytes; ended = true } ∷ [])) []
  cut-feed =
      record {
        text = cut-text 10;
        lines = λ rest.
            cut-lines 10 rest
            ∙ ap (λ (x : List Line). ls ++ x) (feed-ends bytes rest)
            ∙ sym (append_assoc ls (record { bytes = bytes; ended = true } ∷ []) (lines_from [] rest));
      }

  -- the lines of the grounds, where nothing follows
  cut-ground : ground_lines done ≡ ls ++ lines_from bytes []
  cut-ground =
      ap (λ (x : List ℕ). lines_of (drop (length x) done)) cut-whole ∙ ap (λ (x : List ℕ). lines_of (drop (length t) x)) (sym (append-nil done)) ∙ w.lines []
    where
      cut-whole : text_part true done ≡ t
      cut-whole = ap (text_part true) (sym (append-nil done)) ∙ w.text []

  cut-text_of : text_of done ≡ t
  cut-text_of = ap (text_part true) (sym (append-nil done)) ∙ w.text []

-- ---- where the parser stands

pub data Stands (done : List ℕ) (m : Memory) : Type 0 where
  in-text : Reading done m.parser.head → Sized (input_limit + 1) (length done) m.parser.head.size → Stored 0 input_limit m.text done → m.parser.line ≡ open_line
      → m.parser.places ≡ replicate most_variables unused_place
      → Gathered [] m
      → Stands done m
  in_opening : (t bytes : List ℕ) → m.parser.head.phase ≡ Assignment → Cut done t [] bytes → Sized (input_limit + 1) (length t) m.parser.head.size → Stored 0 input_limit m.text t
      → Buffered m.parser.line bytes
      → m.parser.places ≡ replicate most_variables unused_place
      → Gathered [] m
      → Stands done m
  in_lines : (t bytes : List ℕ) (first : Line) (ls : List Line) → m.parser.head.phase ≡ Grounds → Cut done t (first ∷ ls) bytes → Sized (input_limit + 1) (length t) m.parser.head.size
      → Stored 0 input_limit m.text t
      → Buffered m.parser.line bytes
      → m.parser.places ≡ places_in (first ∷ ls)
      → Gathered ls m
      → Stands done m

-- ---- at the start

pub stands-start : (text : List ℕ) (steps : List (List ℕ)) → input_limit ≤ length text → most_steps ≤ length steps → Stands [] (memory fresh text steps)
unfolding fresh steps_in conclusions_in
stands-start text steps t s =
    in-text (at-start refl refl (λ rest. refl)) (record { few = omega arith; exact = λ h. refl; full = λ h. absurd (omega arith) })
    (record { room = t; at = λ j i k. absurd (omega arith) })
    refl
    refl
    (record {
      counted = record { few = omega arith; exact = λ h. refl; full = λ h. absurd (omega arith) };
      stored = record { room = s; at = λ j i k. absurd (omega arith) };
      notes = notes-none;
    })

-- ---- one byte more

-- the head by the next phase
module _ (h : Head) (b : ℕ) where
  head-zero : phase_after h.phase b ≡ Start → head_after h b ≡ record { phase = Start; size = grown h.size (input_limit + 1); start = grown h.size (input_limit + 1) }
  unfolding head_after
  head-zero e = rw e

  head-one : phase_after h.phase b ≡ Zero → head_after h b ≡ record { phase = Zero; size = grown h.size (input_limit + 1); start = h.start }
  unfolding head_after
  head-one e = rw e

  head-two : phase_after h.phase b ≡ Inside → head_after h b ≡ record { phase = Inside; size = grown h.size (input_limit + 1); start = h.start }
  unfolding head_after
  head-two e = rw e

  head_three : phase_after h.phase b ≡ Assignment → head_after h b ≡ record { phase = Assignment; size = h.start; start = h.start }
  unfolding head_after
  head_three e = rw e

-- the text is not over
abbrev Low : Phase → Type 0
Low p = (p ≡ Assignment → ⊥) × (p ≡ Grounds → ⊥) × (p ≡ Beyond → ⊥)

module _ (done : List ℕ) (b : ℕ) (m : Memory) where
  abbrev later : Memory
  later = memory (with_head m.parser b) (set m.text m.parser.head.size b) m.steps

  module _ (low : Low m.parser.head.phase) (sized : Sized (input_limit + 1) (length done) m.parser.head.size) (stored : Stored 0 input_limit m.text done)
      (opened : m.parser.line ≡ open_line) (unplaced : m.parser.places ≡ replicate most_variables unused_place) (gathered : Gathered [] m) where
    gathered-on : Gathered [] later
    unfolding with_head
    gathered-on = record { counted = gathered.counted; stored = gathered.stored; notes = gathered.notes }

    more-sized : Sized (input_limit + 1) (length (done ++ (b ∷ []))) (grown m.parser.head.size (input_limit + 1))
    more-sized = rw (length-append done (b ∷ [])) (sized-more (input_limit + 1) (length done) m.parser.head.size sized)

    more-stored : Stored 0 input_limit (set m.text m.parser.head.size b) (done ++ (b ∷ []))
    more-stored = stored_more 0 input_limit m.text done m.parser.head.size b sized stored

    text-on : (h : Head) → head_after m.parser.head b ≡ h → h.size ≡ grown m.parser.head.size (input_limit + 1) → Reading (done ++ (b ∷ [])) h → Stands (done ++ (b ∷ [])) (taken b m)
    unfolding with_head
    text-on h e s r =
        subst (Stands (done ++ (b ∷ []))) (sym (taken-text b m low.0 low.1 low.2))
        (in-text (subst (Reading (done ++ (b ∷ []))) (sym e) r)
        (subst (λ (x : Head). Sized (input_limit + 1) (length (done ++ (b ∷ []))) x.size) (sym e) (rw s more-sized))
        more-stored
        opened
        unplaced
        gathered-on)

    text-opens : (t : List ℕ) → head_after m.parser.head b ≡ record { phase = Assignment; size = m.parser.head.start; start = m.parser.head.start } → b ≡ 56
        → done ≡ t ++ (48 ∷ [])
        → Sized (input_limit + 1) (length t) m.parser.head.start
        → Waits done t
        → Stands (done ++ (b ∷ [])) (taken b m)
    unfolding with_head
    text-opens t e f g s w =
        subst (Stands (done ++ (b ∷ []))) (sym (taken-text b m low.0 low.1 low.2))
        (in_opening t (48 ∷ 56 ∷ []) (ap (λ (x : Head). x.phase) e) (subst (λ (x : ℕ). Cut (done ++ (x ∷ [])) t [] (48 ∷ 56 ∷ [])) (sym f) (cut-open done t g w))
        (subst (λ (x : Head). Sized (input_limit + 1) (length t) x.size) (sym e) s)
        (stored-front 0 input_limit (set m.text m.parser.head.size b) t ((48 ∷ []) ++ (b ∷ []))
        (subst (Stored 0 input_limit (set m.text m.parser.head.size b)) (ap (λ (x : List ℕ). x ++ (b ∷ [])) g ∙ append_assoc t (48 ∷ []) (b ∷ [])) more-stored))
        (subst (λ (x : Buffer). Buffered x (48 ∷ 56 ∷ [])) (sym opened) buffered-open)
        unplaced
        gathered-on)

    by-phase : Reading done m.parser.head → Stands (done ++ (b ∷ [])) (taken b m)
    by-phase (at-start p s f) = go (eqb b 10) refl (eqb b 48) refl
      where
        go : (c : Bool) → eqb b 10 ≡ c → (d : Bool) → eqb b 48 ≡ d → Stands (done ++ (b ∷ [])) (taken b m)
        go true q d o =
            let e : b ≡ 10 = eqb-true b 10 q in
            text-on _ (head-zero m.parser.head b (sym (phase-feed m.parser.head.phase b e))) refl
            (at-start refl refl (goes_on done b true true f (λ rest. part-fresh b rest (λ z. omega arith) ∙ ap (λ (x : Bool). b ∷ text_part x rest) q)))
        go false q true o =
            let e : b ≡ 10 → ⊥ = eqb-false b 10 q in
            let z : b ≡ 48 = eqb-true b 48 o in
            text-on _ (head-one m.parser.head b (sym (phase-zero m.parser.head.phase b e p z))) refl
            (after-zero refl done (ap (λ (x : ℕ). done ++ (x ∷ [])) z) (rw s sized)
            (λ rest. ap (text_part true) (append_assoc done (b ∷ []) rest) ∙ f (b ∷ rest) ∙ ap (λ (x : ℕ). done ++ text_part true (x ∷ rest)) z))
        go false q false o =
            let e : b ≡ 10 → ⊥ = eqb-false b 10 q in
            let z : b ≡ 48 → ⊥ = eqb-false b 48 o in
            text-on _ (head-two m.parser.head b (sym (phase-zero-other m.parser.head.phase b e p z))) refl
            (inside refl (goes_on done b true false f (λ rest. part-fresh b rest z ∙ ap (λ (x : Bool). b ∷ text_part x rest) q)))
    by-phase (after-zero p t g s w) = go (eqb b 10) refl (eqb b 56) refl
      where
        go : (c : Bool) → eqb b 10 ≡ c → (d : Bool) → eqb b 56 ≡ d → Stands (done ++ (b ∷ [])) (taken b m)
        go true q d o =
            let e : b ≡ 10 = eqb-true b 10 q in
            text-on _ (head-zero m.parser.head b (sym (phase-feed m.parser.head.phase b e))) refl
            (at-start refl refl (waits-on done t b true g w (λ rest. part-zero b rest (λ z. omega arith) ∙ ap (λ (x : Bool). 48 ∷ b ∷ text_part x rest) q)))
        go false q true o =
            let e : b ≡ 10 → ⊥ = eqb-false b 10 q in
            let z : b ≡ 56 = eqb-true b 56 o in
            text-opens t (head_three m.parser.head b (sym (phase-one m.parser.head.phase b e p z))) z g s w
        go false q false o =
            let e : b ≡ 10 → ⊥ = eqb-false b 10 q in
            let z : b ≡ 56 → ⊥ = eqb-false b 56 o in
            text-on _ (head-two m.parser.head b (sym (phase-one-other m.parser.head.phase b e p z))) refl
            (inside refl (waits-on done t b false g w (λ rest. part-zero b rest z ∙ ap (λ (x : Bool). 48 ∷ b ∷ text_part x rest) q)))
    by-phase (inside p f) = go (eqb b 10) refl
      where
        go : (c : Bool) → eqb b 10 ≡ c → Stands (done ++ (b ∷ [])) (taken b m)
        go true q =
            let e : b ≡ 10 = eqb-true b 10 q in
            text-on _ (head-zero m.parser.head b (sym (phase-feed m.parser.head.phase b e))) refl
            (at-start refl refl (goes_on done b false true f (λ rest. part-inside b rest ∙ ap (λ (x : Bool). b ∷ text_part x rest) q)))
        go false q =
            let e : b ≡ 10 → ⊥ = eqb-false b 10 q in
            text-on _ (head-two m.parser.head b (sym (phase-rest m.parser.head.phase b e (λ z. cc) (λ z. cc)))) refl
            (inside refl (goes_on done b false false f (λ rest. part-inside b rest ∙ ap (λ (x : Bool). b ∷ text_part x rest) q)))

reading-low : (done : List ℕ) (h : Head) → Reading done h → Low h.phase
reading-low done h (at-start p s f) = (λ e. cc, λ e. cc, λ e. cc)
reading-low done h (after-zero p t g s w) = (λ e. cc, λ e. cc, λ e. cc)
reading-low done h (inside p f) = (λ e. cc, λ e. cc, λ e. cc)

-- a line that has its feed
abbrev whole : List ℕ → Line
whole bytes = record { bytes = bytes; ended = true }

abbrev broken : List ℕ → Line
broken bytes = record { bytes = bytes; ended = false }

module _ (done : List ℕ) (b : ℕ) (m : Memory) (t bytes : List ℕ) (sized : Sized (input_limit + 1) (length t) m.parser.head.size) (stored : Stored 0 input_limit m.text t)
    (buffered : Buffered m.parser.line bytes) where
  concludes-same : formed 177 26 m.parser.line.good m.parser.line.size m.parser.line.values ≡ concludes (whole bytes)
  unfolding good_line digits_of
  concludes-same = formed-same m.parser.line bytes buffered 177 26 (omega arith)

  word-here : (i : ℕ) → i ≤ 2 → word_of m.parser.line.good m.parser.line.size m.parser.line.values i ≡ word_of (good_line (whole bytes)) (length bytes) (digits_of (whole bytes)) i
  unfolding good_line digits_of
  word-here i h = word_same m.parser.line bytes buffered i h

  words-here : step_words m.parser.line.good m.parser.line.size m.parser.line.values ≡ line_words (whole bytes)
  words-here = rw (word-here 0 (omega arith), word-here 1 (omega arith), word-here 2 (omega arith))

  noted_here : noted m.parser.noted m.parser.line.values ≡ noted m.parser.noted (digits_of (whole bytes))
  unfolding digits_of
  noted_here = noted-same m.parser.line bytes buffered m.parser.noted

  -- in the 08 line
  module _ (phase : m.parser.head.phase ≡ Assignment) (cut : Cut done t [] bytes) (unplaced : m.parser.places ≡ replicate most_variables unused_place) (gathered : Gathered [] m) where
    opening_on : (b ≡ 10 → ⊥) → Stands (done ++ (b ∷ [])) (taken b m)
    unfolding with_byte
    opening_on e =
        subst (Stands (done ++ (b ∷ []))) (sym (taken-opening b m phase e))
        (in_opening t (bytes ++ (b ∷ [])) phase (cut_on done t [] bytes cut b e) sized stored (buffered-push m.parser.line bytes b buffered) unplaced
        (record { counted = gathered.counted; stored = gathered.stored; notes = gathered.notes }))

    places-here : (with_places m.parser).places ≡ places_in (whole bytes ∷ [])
    unfolding with_places places_in good_line digits_of
    places-here = places_same m.parser.line bytes buffered

    opening-ends : b ≡ 10 → Stands (done ++ (b ∷ [])) (taken b m)
    unfolding with_places
    opening-ends e =
        subst (Stands (done ++ (b ∷ []))) (sym (taken_places b m phase e))
        (in_lines t [] (whole bytes) [] refl (subst (λ (x : ℕ). Cut (done ++ (x ∷ [])) t (whole bytes ∷ []) []) (sym e) (cut-feed done t [] bytes cut)) sized stored buffered-empty places-here
        (record { counted = gathered.counted; stored = gathered.stored; notes = gathered.notes }))

  -- in a later line
  module _ (first : Line) (ls : List Line) (phase : m.parser.head.phase ≡ Grounds) (cut : Cut done t (first ∷ ls) bytes) (placed : m.parser.places ≡ places_in (first ∷ ls))
      (gathered : Gathered ls m) where
    line_on : (b ≡ 10 → ⊥) → Stands (done ++ (b ∷ [])) (taken b m)
    unfolding with_byte
    line_on e =
        subst (Stands (done ++ (b ∷ []))) (sym (taken-byte b m phase e))
        (in_lines t (bytes ++ (b ∷ [])) first ls phase (cut_on done t (first ∷ ls) bytes cut b e) sized stored (buffered-push m.parser.line bytes b buffered) placed
        (record { counted = gathered.counted; stored = gathered.stored; notes = gathered.notes }))

    placed-more : m.parser.places ≡ places_in (first ∷ (ls ++ (whole bytes ∷ [])))
    unfolding places_in
    placed-more = placed

    cut-here : b ≡ 10 → Cut (done ++ (b ∷ [])) t (first ∷ (ls ++ (whole bytes ∷ []))) []
    cut-here e = subst (λ (x : ℕ). Cut (done ++ (x ∷ [])) t (first ∷ (ls ++ (whole bytes ∷ []))) []) (sym e) (cut-feed done t (first ∷ ls) bytes cut)

    concluded : concludes (whole bytes) ≡ true → after_line m ≡ memory (with_conclusion m.parser) m.text m.steps
    unfolding after_line
    concluded e = rw (concludes-same ∙ e)

    stepped : concludes (whole bytes) ≡ false → after_line m ≡ after_step m
    unfolding after_line
    stepped e = rw (concludes-same ∙ e)

    line-ends : b ≡ 10 → (c : Bool) → concludes (whole bytes) ≡ c → Stands (done ++ (b ∷ [])) (taken b m)
    unfolding with_conclusion with_step after_step
    line-ends e true q =
        subst (Stands (done ++ (b ∷ []))) (sym (taken-line b m phase e ∙ concluded q))
        (in_lines t [] first (ls ++ (whole bytes ∷ [])) phase (cut-here e) sized stored buffered-empty placed-more
        (gathered-conclusion ls (whole bytes) m gathered (with_conclusion m.parser) q refl noted_here))
    line-ends e false q =
        subst (Stands (done ++ (b ∷ []))) (sym (taken-line b m phase e ∙ stepped q))
        (in_lines t [] first (ls ++ (whole bytes ∷ [])) phase (cut-here e) sized stored buffered-empty placed-more
        (gathered-step ls (whole bytes) m gathered (with_step m.parser) _ q words-here refl refl))

pub stands-taken : (done : List ℕ) (b : ℕ) (m : Memory) → Stands done m → Stands (done ++ (b ∷ [])) (taken b m)
stands-taken done b m (in-text r s t o u g) = by-phase done b m (reading-low done m.parser.head r) s t o u g r
stands-taken done b m (in_opening t bytes p c s x f u g) = go (eqb b 10) refl
  where
    go : (k : Bool) → eqb b 10 ≡ k → Stands (done ++ (b ∷ [])) (taken b m)
    go true q = opening-ends done b m t bytes s x f p c u g (eqb-true b 10 q)
    go false q = opening_on done b m t bytes s x f p c u g (eqb-false b 10 q)
stands-taken done b m (in_lines t bytes first ls p c s x f u g) = go (eqb b 10) refl
  where
    go : (k : Bool) → eqb b 10 ≡ k → Stands (done ++ (b ∷ [])) (taken b m)
    go true q = line-ends done b m t bytes s x f first ls p c u g (eqb-true b 10 q) (concludes (whole bytes)) refl
    go false q = line_on done b m t bytes s x f first ls p c u g (eqb-false b 10 q)

pub stands-fed : (done piece : List ℕ) (m : Memory) → Stands done m → Stands (done ++ piece) (fed piece m)
unfolding fed
stands-fed done [] m w = rw (append-nil done) w
stands-fed done (b ∷ l) m w =
    subst (λ (x : List ℕ). Stands x (fed l (taken b m))) (append_assoc done (b ∷ []) l) (stands-fed (done ++ (b ∷ [])) l (taken b m) (stands-taken done b m w))

-- ---- after the last byte

pub record Parsed (input : List ℕ) (m : Memory) : Type 0 where
  pub sized : Sized (input_limit + 1) (length (text_of input)) m.parser.head.size
  pub text : Stored 0 input_limit m.text (text_of input)
  pub places : m.parser.places ≡ places_in (ground_lines input)
  pub gathered : Gathered (drop 1 (ground_lines input)) m

text-whole : (done : List ℕ) (h : Head) → Reading done h → text_of done ≡ done
text-whole done h (at-start p s f) = ap (text_part true) (sym (append-nil done)) ∙ f [] ∙ ap (λ (x : List ℕ). done ++ x) (part_none true) ∙ append-nil done
text-whole done h (inside p f) = ap (text_part true) (sym (append-nil done)) ∙ f [] ∙ ap (λ (x : List ℕ). done ++ x) (part_none false) ∙ append-nil done
text-whole done h (after-zero p t g s w) = ap (text_part true) (sym (append-nil done)) ∙ w [] ∙ ap (λ (x : List ℕ). t ++ x) part-last ∙ sym g

no_lines : (done : List ℕ) → text_of done ≡ done → ground_lines done ≡ []
unfolding lines_of lines_from
no_lines done e = ap (λ (x : List ℕ). lines_of (drop (length x) done)) e ∙ ap lines_of (drop-length done)

parsed-of : (input : List ℕ) (m : Memory) (t : List ℕ) (gs : List Line) → text_of input ≡ t → ground_lines input ≡ gs → Sized (input_limit + 1) (length t) m.parser.head.size
    → Stored 0 input_limit m.text t
    → m.parser.places ≡ places_in gs
    → Gathered (drop 1 gs) m
    → Parsed input m
parsed-of input m t gs e f s x u g = record { sized = rw e s; text = rw e x; places = rw f u; gathered = rw f g }

no-places : replicate most_variables unused_place ≡ places_in []
unfolding places_in
no-places = refl

-- a line without its feed gives no rows, and is a step of zeros
broken-places : (bytes : List ℕ) → places_in (broken bytes ∷ []) ≡ replicate most_variables unused_place
unfolding places_in places_of place_of assigns good_line
broken-places bytes = refl

broken-step : (bytes : List ℕ) → concludes (broken bytes) ≡ false
unfolding good_line formed
broken-step bytes = refl

broken-words : (bytes : List ℕ) → words_of 0 0 0 ≡ line_words (broken bytes)
unfolding good_line formed word_of
broken-words bytes = refl

module _ (input : List ℕ) (m : Memory) (t : List ℕ) (sized : Sized (input_limit + 1) (length t) m.parser.head.size) (stored : Stored 0 input_limit m.text t) where
  end-opening : (bytes : List ℕ) → Cut input t [] bytes → m.parser.places ≡ replicate most_variables unused_place → Gathered [] m → Parsed input m
  unfolding lines_from places_in
  end-opening [] c u g = parsed-of input m t [] (cut-text_of input t [] [] c) (cut-ground input t [] [] c) sized stored u g
  end-opening (a ∷ l) c u g =
      parsed-of input m t (broken (a ∷ l) ∷ []) (cut-text_of input t [] (a ∷ l) c) (cut-ground input t [] (a ∷ l) c) sized stored (u ∙ sym (broken-places (a ∷ l))) g

  end_empty : (first : Line) (ls : List Line) → Cut input t (first ∷ ls) [] → m.parser.places ≡ places_in (first ∷ ls) → Gathered ls m → Parsed input m
  unfolding lines_from
  end_empty first ls c u g =
      parsed-of input m t (first ∷ ls) (cut-text_of input t (first ∷ ls) [] c) (cut-ground input t (first ∷ ls) [] c ∙ append-nil (first ∷ ls)) sized stored u g

  end_step : (a : ℕ) (l : List ℕ) (first : Line) (ls : List Line) → Cut input t (first ∷ ls) (a ∷ l) → m.parser.places ≡ places_in (first ∷ ls) → Gathered ls m
      → Parsed input (after_step (memory (unended m.parser) m.text m.steps))
  unfolding lines_from after_step with_step unended word_of formed places_in
  end_step a l first ls c u g =
      parsed-of input _ t (first ∷ (ls ++ (broken (a ∷ l) ∷ []))) (cut-text_of input t (first ∷ ls) (a ∷ l) c) (cut-ground input t (first ∷ ls) (a ∷ l) c) sized stored u
      (gathered-step ls (broken (a ∷ l)) m g (with_step (unended m.parser)) (words_of 0 0 0) (broken-step (a ∷ l)) (broken-words (a ∷ l)) refl refl)

  end-lines : (bytes : List ℕ) (first : Line) (ls : List Line) → m.parser.head.phase ≡ Grounds → Cut input t (first ∷ ls) bytes → Buffered m.parser.line bytes
      → m.parser.places ≡ places_in (first ∷ ls)
      → Gathered ls m
      → Parsed input (finished m)
  end-lines [] first ls p c f u g = subst (Parsed input) (sym (unended-none m p (f.sized.exact (omega arith)))) (end_empty first ls c u g)
  end-lines (a ∷ l) first ls p c f u g = subst (Parsed input) (sym (unended-step m p (some (ltb (suc (length l)) 51) refl))) (end_step a l first ls c u g)
    where
      some : (k : Bool) → ltb (suc (length l)) 51 ≡ k → 0 < m.parser.line.size
      some true q = omega (arith, f.sized.exact (ltb-true (suc (length l)) 51 q))
      some false q = omega (arith, f.sized.full (ltb-false (suc (length l)) 51 q))

pub parsed : (input : List ℕ) (m : Memory) → Stands input m → Parsed input (finished m)
parsed input m (in-text r s x o u g) =
    let e : text_of input ≡ input = text-whole input m.parser.head r in
    let l : Low m.parser.head.phase = reading-low input m.parser.head r in
    subst (Parsed input) (sym (unended-not m l.1)) (parsed-of input m input [] e (no_lines input e) s x (u ∙ no-places) g)
parsed input m (in_opening t bytes p c s x f u g) = subst (Parsed input) (sym (unended-not m (λ z. cc))) (end-opening input m t s x bytes c u g)
parsed input m (in_lines t bytes first ls p c s x f u g) = end-lines input m t s x bytes first ls p c f u g
