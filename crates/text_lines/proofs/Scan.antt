-- The search for a line's end, as a loop over places.
--     Scan                              the bytes from where the line begins to before a place are digits
--     scan-start, scan_step             it holds at first, and one digit later
--     scan-stop, scan-done              a byte that is no digit, or the end of the text, ends the run
--     line-open, line_other, line-none, line-odd   the ways in which a line is refused by 1
--     line-ends                         a legible line
-- Assumes nothing.
use mathlib.Core.Bool.{Bool, true, false, not}
use mathlib.Core.List.{List, [], ◌∷◌, ◌++◌, append_assoc}
use mathlib.Core.Path.{◌≡◌, refl, sym, ap, ◌∙◌}
use Prim.Native.Nat.{ℕ, suc, ◌+◌, ◌-◌, ◌%◌, ◌<◌, ◌≤◌, min}
use native.Mathlib.Nat.{zero-add}
use native.Mathlib.Omega.{arith}
use lib.Dec.{eqb, ltb}
use lib.ListN.{length, get_or, take, drop, length-drop, drop_of_length-le}
use lib.Seq.{drop-cons, drop-drop, get_or-take, get_or-drop, length-take-le}
use borrow.Author.Rules.{rules}
use borrow.Author.Tests.{ne_eqb, eqb-true, eqb-false}
use Rattle.std.specs.Prelude.{Option, Ok, Err, is_some}
use Rattle.meaning.specs.Text as M
use Rattle.meaning.specs.Text.{Line, lines_of, lines_from, digit, spot_or, non_digit, is_nowhere, legible, bad_byte, furthest}
use Rattle.meaning.proofs.Logic.{and-false}
use Rattle.text_lines.specs.Digits.{digit_of}
use Rattle.text_lines.specs.Lines.{Digits, Run, Illegible, LineAt}
use Rattle.text_lines.specs.declared.lines.Illegible as I
use Rattle.text_lines.proofs.Hex.{digit-some, digit-none}
use Rattle.text_lines.proofs.Breaks.{AllDigits, digits-on, feed-ends, from_cons, byte-begins, all-nowhere, fails-after}

lt_of_le_ne : (k i : ℕ) → k ≤ i → (k ≡ i → ⊥) → k < i
lt_of_le_ne k i h n = omega arith

pub record Scan (text : List ℕ) (at i : ℕ) : Type 0 where
  pub from : at ≤ i
  pub inside : i ≤ length text
  pub digits : Digits text at i

module _ {text : List ℕ} {at : ℕ} where
  pub scan-start : at ≤ length text → Scan text at at
  scan-start h = record { from = omega arith; inside = h; digits = λ k a b. absurd (omega arith) }

  module _ {i : ℕ} (o : Option ℕ) (none : Bool) (s : Scan text at i) (h : i < length text) (e : o ≡ digit_of (get_or text i 0)) (f : is_some o ≡ not none) where
    pub scan_step : none ≡ false → Scan text at (i + 1)
    scan_step n = record { from = omega (arith, s.from); inside = omega arith; digits = λ k a b. go k a b (eqb k i) refl }
      where
        go : (k : ℕ) → at ≤ k → k < i + 1 → (t : Bool) → eqb k i ≡ t → digit (get_or text k 0) < 16
        go k a b true g = rw (eqb-true k i g) (digit-some (get_or text i 0) (ap is_some (sym e) ∙ f ∙ ap not n))
        go k a b false g = let n = eqb-false k i g in s.digits k a (lt_of_le_ne k i (omega arith) n)

    pub scan-stop : none ≡ true → Run text at i
    scan-stop n =
        record { from = s.from; inside = s.inside; digits = s.digits; stops = λ g. digit-none (get_or text i 0) (ap is_some (sym e) ∙ f ∙ ap not n) }

  pub scan-done : {i : ℕ} → Scan text at i → length text ≤ i → Run text at (length text)
  scan-done {i} s h =
      let e : i ≡ length text = omega (arith, s.inside) in
      let d : Digits text at (length text) = rw (← e) s.digits in
      record { from = omega (arith, s.from); inside = omega arith; digits = d; stops = λ g. absurd (omega arith) }

-- the bytes of a line
abbrev pub part : List ℕ → ℕ → ℕ → List ℕ
part text at end = take (end - at) (drop at text)

module _ (text : List ℕ) (at end : ℕ) (from : at ≤ end) (inside : end ≤ length text) where
  pub part_length : length (part text at end) ≡ end - at
  part_length = length-take-le (end - at) (drop at text) (simp length-drop (omega arith))

  pub part-digits : Digits text at end → AllDigits (part text at end)
  part-digits d k h =
      let g : k < end - at = rw part_length at h in
      rw (get_or-take (end - at) (drop at text) k 0 g, get_or-drop at text k 0) (d (at + k) (omega arith) (omega arith))

  joined : at + (end - at) ≡ end
  joined = omega arith

  pub part-lines : Digits text at end → lines_of (drop at text) ≡ lines_from (part text at end) (drop end text)
  unfolding lines_of
  part-lines d =
      digits-on (end - at) [] (drop at text) (simp length-drop (omega arith)) (part-digits d)
      ∙ ap (λ (u : List ℕ). lines_from (part text at end) u) (drop-drop (end - at) at text ∙ ap (λ (n : ℕ). drop n text) joined)

-- a line is not legible where it has no line feed, or a byte that is no digit, or an odd number of digits or none
not-ended : (line : Line) → line.ended ≡ false → legible line ≡ false
unfolding legible
not-ended line e = rw (e, and-false (ltb 0 (length line.bytes)), and-false)

not-digits : (line : Line) → is_nowhere (non_digit line.bytes) ≡ false → legible line ≡ false
unfolding legible
not-digits line e = rw e

not_some : (line : Line) → length line.bytes ≡ 0 → legible line ≡ false
unfolding legible
not_some line e = rw (e, and-false)

not-even : (line : Line) → (length line.bytes % 2 ≡ 0 → ⊥) → legible line ≡ false
unfolding legible
not-even line e = rw (ne_eqb _ _ e, and-false)

-- a run of digits and then a line feed are a line
pub run-lines : (text : List ℕ) (at end : ℕ) → at ≤ end → end < length text → Digits text at end → get_or text end 0 ≡ 10
    → lines_of (drop at text) ≡ record { bytes = part text at end; ended = true } ∷ lines_of (drop (suc end) text)
unfolding lines_of
run-lines text at end a h d f =
    part-lines text at end a (omega arith) d ∙ rw (drop-cons text end 0 h, f) (feed-ends (part text at end) (drop (suc end) text))

-- digits alone: as many as there are; digits and then another byte: where that byte stands
digits-byte : (line : Line) → AllDigits line.bytes → bad_byte line ≡ length line.bytes
unfolding bad_byte non_digit spot_or
digits-byte line d = rw (all-nowhere 0 line.bytes d)

after-spot : (l y : List ℕ) (b : ℕ) → AllDigits l → 16 ≤ digit b → non_digit ((l ++ (b ∷ [])) ++ y) ≡ M.at (length l)
unfolding non_digit
after-spot l y b d h = rw append_assoc (fails-after 0 l b y d h ∙ rw zero-add)

module _ (text : List ℕ) (at end : ℕ) (r : Run text at end) where
  long : length (part text at end) ≡ end - at
  long = part_length text at end r.from r.inside

  lines-of : lines_of (drop at text) ≡ lines_from (part text at end) (drop end text)
  lines-of = part-lines text at end r.from r.inside r.digits

  digits_in : AllDigits (part text at end)
  digits_in = part-digits text at end r.from r.inside r.digits

  stop-byte : (line : Line) → line.bytes ≡ part text at end → min furthest (bad_byte line) ≡ min furthest (end - at)
  stop-byte line e = ap (min furthest) (digits-byte line (rw e digits_in) ∙ ap length e ∙ long)

  open-line : (l : List ℕ) → l ≡ part text at end → lines_of (drop at text) ≡ lines_from l [] → 0 < length l → Illegible text at (min furthest (end - at))
  unfolding lines_from
  open-line [] i e h = absurd (omega arith)
  open-line (a ∷ l) i e h =
      record { line = record { bytes = a ∷ l; ended = false }; later = []; lines = e; bad = not-ended _ refl; byte = stop-byte _ i }

  other : (b : ℕ) (l u : List ℕ) → length l ≡ end - at → AllDigits l → 16 ≤ digit b → (b ≡ 10 → ⊥) → lines_of (drop at text) ≡ lines_from l (b ∷ u)
      → Illegible text at (min furthest (end - at))
  unfolding is_nowhere bad_byte spot_or
  other b l u i g d n e =
      let w = byte-begins l b u in
      let f = after-spot l w.rest b g d in
      record {
        line = record { bytes = (l ++ (b ∷ [])) ++ w.rest; ended = w.feed };
        later = w.later;
        lines = e ∙ from_cons l b u (ne_eqb b 10 n) ∙ w.lines;
        bad = not-digits _ (rw f);
        byte = rw (f, i);
      }

  open-end : at < length text → length text ≤ end → Illegible text at (min furthest (end - at))
  open-end g h = open-line (part text at end) refl (lines-of ∙ rw (drop_of_length-le text h)) (omega (arith, long))

  other-byte : end < length text → (get_or text end 0 ≡ 10 → ⊥) → Illegible text at (min furthest (end - at))
  other-byte h n = other (get_or text end 0) (part text at end) (drop (suc end) text) long digits_in (r.stops h) n (lines-of ∙ rw (drop-cons text end 0 h))

  module _ (h : end < length text) (f : get_or text end 0 ≡ 10) where
    feed-lines : lines_of (drop at text) ≡ record { bytes = part text at end; ended = true } ∷ lines_of (drop (suc end) text)
    feed-lines = run-lines text at end r.from h r.digits f

    none : end - at ≡ 0 → Illegible text at (min furthest (end - at))
    none e = record { line = _; later = _; lines = feed-lines; bad = not_some _ (long ∙ e); byte = stop-byte _ refl }

    odd : ((end - at) % 2 ≡ 0 → ⊥) → Illegible text at (min furthest (end - at))
    odd e =
        record { line = _; later = _; lines = feed-lines; bad = not-even _ (λ g. e (sym (ap (λ (n : ℕ). n % 2) long) ∙ g)); byte = stop-byte _ refl }

    pub line-ends : (end - at ≡ 0 → ⊥) → (end - at) % 2 ≡ 0 → LineAt text at (Ok end)
    line-ends n e = record { from = omega (arith, r.from); inside = h; digits = r.digits; even = e; feed = f }

  module _ (x : I.Illegible) (e : x ≡ record { byte = min furthest (end - at) }) where
    pub line-open : at < length text → length text ≤ end → LineAt text at (Err x)
    line-open g h = rw e (open-end g h)

    pub line_other : end < length text → (get_or text end 0 ≡ 10 → ⊥) → LineAt text at (Err x)
    line_other h n = rw e (other-byte h n)

    pub line-none : end < length text → get_or text end 0 ≡ 10 → end - at ≡ 0 → LineAt text at (Err x)
    line-none h f n = rw e (none h f n)

    pub line-odd : end < length text → get_or text end 0 ≡ 10 → ((end - at) % 2 ≡ 0 → ⊥) → LineAt text at (Err x)
    line-odd h f n = rw e (odd h f n)

pub ruleset mine = (rules, scan-start, scan_step, scan-stop, scan-done, line-open, line_other, line-none, line-odd, line-ends)
