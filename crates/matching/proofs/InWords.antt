-- Words that hold what a step leaves: each step puts a row anew, or cuts a variable's candidates, and so does code.
--     other_row          the words of another row stand elsewhere
--     words-put        a row's words, its flag and its mark written anew
--     words-sift       a variable's words written anew
-- Assumes nothing.
use mathlib.Core.Bool.{Bool, true, false, not, ◌&&◌, ◌||◌}
use mathlib.Core.List.{List}
use mathlib.Core.Path.{◌≡◌, refl, ap, sym, ◌∙◌}
use mathlib.Core.Logic.{◌⊎◌, inl, inr}
use Prim.Native.Nat.{ℕ, suc, ◌+◌, ◌*◌, ◌/◌, ◌%◌, ◌≤◌, ◌<◌}
use native.Mathlib.Nat.{mul-le-mul_right, suc-mul}
use native.Mathlib.Omega.{arith}
use lib.Dec.{eqb, ltb}
use borrow.Author.Tests.{eqb-true, eqb-false, ltb-true, ltb-false}
use lib.ListN.{length, get_or}
use Rattle.meaning.specs.Values.{number_at}
use Rattle.meaning.proofs.Logic.{and-true-left, and-true-right, or_right}
use Rattle.matching.specs.Possible.{Possible, set_at, put, sift}
use Rattle.bits.specs.Sets.{bit_at, has}
use Rattle.matching.specs.InWords.{possible_of}
use Rattle.matching.specs.Sound.{Allows}
use Rattle.matching.proofs.Sets.{set_same, set_other}
use Rattle.matching.proofs.Allows.{allows-wider}

-- row r's words begin a whole row before or behind those of row p
rows_apart : (r p width : ℕ) → r < p → r * width + width ≤ p * width
rows_apart r p width h = let m : suc r * width ≤ p * width = mul-le-mul_right width h in omega (arith, suc-mul r width)

-- a run in which only the words of row p are other than they were
pub record Only (old new : List ℕ) (width p : ℕ) : Type 0 where
  pub others : (i : ℕ) → (i < p * width) ⊎ (p * width + width ≤ i) → get_or new i 0 ≡ get_or old i 0

other_row : (old new : List ℕ) (width p r x : ℕ) → Only old new width p → eqb r p ≡ false → x < width * 64 → has new (r * width) x ≡ has old (r * width) x
unfolding has
other_row old new width p r x o e h = ap (λ (w : ℕ). bit_at w (x % 64)) (o.others (r * width + x / 64) (side (ltb r p) refl))
  where
    word : x / 64 < width
    word = omega arith

    side : (b : Bool) → ltb r p ≡ b → (r * width + x / 64 < p * width) ⊎ (p * width + width ≤ r * width + x / 64)
    side true q = inl (omega (arith, rows_apart r p width (ltb-true r p q), word))
    side false q =
        let l : p < r = omega (arith, ltb-false r p q, eqb-false r p e) in
        inr (omega (arith, rows_apart p r width l))

-- a word of flags in which only flag p is other than it was
pub record OnlyBit (old new p : ℕ) : Type 0 where
  pub others : (r : ℕ) → eqb r p ≡ false → bit_at new r ≡ bit_at old r

module _ (bound offset count width : ℕ) (long : bound ≤ width * 64) (a ns : List ℕ) (small : (v : ℕ) → v < length a → number_at a v < bound) where
  pub words-put : (p : ℕ) (set : ℕ → Bool) (out : Bool) (classes new_classes : List ℕ) (known new_known outside new_outside : ℕ) (candidates : List ℕ)
      → Only classes new_classes width p → OnlyBit known new_known p → OnlyBit outside new_outside p
      → ((x : ℕ) → x < bound → set x ≡ true → has new_classes (p * width) x ≡ true) → (out ≡ true → bit_at new_outside p ≡ true)
      → Allows bound offset count (put p set out (possible_of width classes known outside candidates)) a ns
      → Allows bound offset count (possible_of width new_classes new_known new_outside candidates) a ns
  unfolding possible_of put
  words-put p set out classes new_classes known new_known outside new_outside candidates one marks flags row flag w =
      allows-wider bound offset count a ns (put p set out P) Q (λ e. e) (λ r x h l. class r x l (eqb r p) refl) (λ r h. free r (eqb r p) refl) small (λ v x h l e. e) w
    where
      P : Possible
      P = possible_of width classes known outside candidates

      Q : Possible
      Q = possible_of width new_classes new_known new_outside candidates

      class : (r x : ℕ) → x < bound → (b : Bool) → eqb r p ≡ b → set_at p set P.classes r x ≡ true → (not (bit_at new_known r) || has new_classes (r * width) x) ≡ true
      class r x l true e t =
          let z : r ≡ p = eqb-true r p e in
          let s : set x ≡ true = sym (ap (λ (f : ℕ → Bool). f x) (set_same p set P.classes r e)) ∙ t in
          or_right (not (bit_at new_known r)) (has new_classes (r * width) x) (rw z (row x l s))
      class r x l false e t =
          rw (marks.others r e, other_row classes new_classes width p r x one e (omega arith))
          (sym (ap (λ (f : ℕ → Bool). f x) (set_other p set P.classes r e)) ∙ t)

      free : (r : ℕ) → (b : Bool) → eqb r p ≡ b → set_at p out P.outside r ≡ true → (not (bit_at new_known r) || bit_at new_outside r) ≡ true
      free r true e t =
          let z : r ≡ p = eqb-true r p e in
          or_right (not (bit_at new_known r)) (bit_at new_outside r) (rw z (flag (sym (set_same p out P.outside r e) ∙ t)))
      free r false e t = rw (marks.others r e, flags.others r e) (sym (set_other p out P.outside r e) ∙ t)

  pub words-sift : (v : ℕ) (set : ℕ → Bool) (classes : List ℕ) (known outside : ℕ) (candidates new_candidates : List ℕ) → Only candidates new_candidates width v
      → ((x : ℕ) → x < bound → has candidates (v * width) x ≡ true → set x ≡ true → has new_candidates (v * width) x ≡ true)
      → Allows bound offset count (sift v set (possible_of width classes known outside candidates)) a ns
      → Allows bound offset count (possible_of width classes known outside new_candidates) a ns
  unfolding possible_of sift
  words-sift v set classes known outside candidates new_candidates one row w =
      allows-wider bound offset count a ns (sift v set P) (possible_of width classes known outside new_candidates) (λ e. e) (λ r x h l e. e) (λ r h e. e) small
      (λ u x h l. each u x l (eqb u v) refl)
      w
    where
      P : Possible
      P = possible_of width classes known outside candidates

      new : ℕ → Bool
      new x = has candidates (v * width) x && set x

      each : (u x : ℕ) → x < bound → (b : Bool) → eqb u v ≡ b → set_at v new P.candidates u x ≡ true → has new_candidates (u * width) x ≡ true
      each u x l true e t =
          let z : u ≡ v = eqb-true u v e in
          let s : (has candidates (v * width) x && set x) ≡ true = sym (ap (λ (f : ℕ → Bool). f x) (set_same v new P.candidates u e)) ∙ t in
          rw z (row x l (and-true-left (has candidates (v * width) x) (set x) s) (and-true-right (has candidates (v * width) x) (set x) s))
      each u x l false e t =
          other_row candidates new_candidates width v u x one e (omega arith) ∙ sym (ap (λ (f : ℕ → Bool). f x) (set_other v new P.candidates u e)) ∙ t
