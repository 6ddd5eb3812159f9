-- What `verify` has to print, tried on one text, the lullaby of the sheet: there is one line for an input, and useless candidates do not print it.
--     verify-one    two lines for an input are equal
--     some-..       what each candidate that prints as asked prints for the lullaby with its grounds, and without
--     no-..         a candidate that is shut out by what it prints for these two inputs
-- Assumes nothing.
use mathlib.Core.List.{List, [], ◌∷◌}
use mathlib.Core.Path.{◌≡◌, refl, ap, sym, ◌∙◌}
use Prim.Native.Nat.{ℕ, ◌≤◌}
use native.Mathlib.Omega.{arith}
use lib.ListN.{length, drop, replicate}
use Rattle.meaning.specs.Context.{equations_of, differences_of}
use Rattle.meaning.specs.Rules.{variables}
use Rattle.meaning.specs.Text.{Limits, narrow, lines_of, lines_from, digit}
use Rattle.meaning.specs.Writing.{frame, hex, digit_of}
use Rattle.meaning.specs.ByTable.{same_list}
use Rattle.meaning.specs.Sheet.{bytes}
use Rattle.meaning.specs.Grounds.{Conclusion, conclusion_for, Verdict, accepted, unassigned, case_of, details_of}
use Rattle.meaning.specs.GroundColumns.{step_from}
use Rattle.grounds_steps.specs.Steps.{steps_of}
use Rattle.meaning.specs.Checking.{entry_of, entries, key_of, keys_of, same_key, numbered, alike, number_like, numbers_to, numbers_of, number_below, side_of, counts, is_unequal, owner_by, sides_by, used_by, cited_by, paired_by, met_by, each_by, congruent_by, adds_by, added_by, derives_by, follows_by, differs_by_steps, concludes_by, first_false, assigned_by, choose, concluded_by, verdict_by}
use Rattle.grounds_intake.specs.Parsing.{begins, text_part, text_of, ground_lines, all_digits, good_line, digits_of, byte_of, two_of, four_of, eight_of, assigns, place_of, places_of, places_in, formed, word_of, conclusion_of, steps_in, conclusions_in}
use Rattle.grounds_judgement.specs.Judgements.{judged}
use Rattle.grounds_judgement.proofs.Answers.{judgement-one}
use Rattle.grounds_judgement.proofs.Controls.{lullaby, grounds, places, verdict_on, lullaby-short, lullaby-judged}
use Rattle.grounds_replies.specs.Replies.{bytes_of, printed, given_in, VerifyPrints, long, many, judges}

pub verify-one : (L : Limits) (input a b : List ℕ) → VerifyPrints L input a → VerifyPrints L input b → a ≡ b
verify-one L input a b (long h) (long k) = refl
verify-one L input a b (long h) (many k) = refl
verify-one L input a b (long h) (judges k l j w) = absurd (omega arith)
verify-one L input a b (many h) (long k) = refl
verify-one L input a b (many h) (many k) = refl
verify-one L input a b (many h) (judges k l j w) = absurd (omega arith)
verify-one L input a b (judges h i j v) (long k) = absurd (omega arith)
verify-one L input a b (judges h i j v) (many k) = absurd (omega arith)
verify-one L input a b (judges h i j v) (judges k l q w) =
    ap printed
    (judgement-one (places_in (ground_lines input)) (steps_of (given_in input)) (conclusions_in (drop 1 (ground_lines input))) L (text_of input) j q v w)

-- ---- the lullaby, and behind it its grounds

unfoldable pub grounded : List ℕ
grounded = bytes "01001000\n01001100\n01001200\n01001300\n0100200100\n0100210100\n0100210101\n020401\n020503\n020602\n030203\n0400\n0401\n0500200100\n0500210100\n0500210101\n060201\n070304\n08020001\nB0000100000400000100000001000000000000000000000000\nB0000100000500000300000002000000000000000000000000\nB0000100000600000200000003000000000000000000000000\nB0000300000200000600000003000000000000000000000000\nB0020601000301000400000000000000000000000000000000\nB0020301000401000300000005000000000000000000000000\nB0020400000201000300000004000000060000000000000000\nB0020400000200000300000007000000020000000000000000\nB1010000000100000000000000\nB1020000000800000000000100\n"

abbrev ends : List Conclusion
ends = record { literal = 1; first = 1; difference = 0 } ∷ record { literal = 2; first = 8; difference = 1 } ∷ []

grounded-text : text_of grounded ≡ lullaby
unfolding grounded lullaby bytes text_part begins
grounded-text = refl

grounded-lines :
    (places_in (ground_lines grounded) ≡ places)
    × (given_in grounded ≡ grounds)
    × (conclusions_in (drop 1 (ground_lines grounded)) ≡ ends)
unfolding grounded bytes text_part begins lines_of lines_from digit all_digits good_line digits_of byte_of two_of four_of eight_of assigns place_of places_of places_in formed word_of conclusion_of steps_in conclusions_in
grounded-lines = (refl, refl, refl)

computed :
    (verdict_on places (steps_of grounds) ends ≡ accepted)
    × (verdict_on (replicate 4 255) [] [] ≡ unassigned 0)
unfolding steps_of step_from entry_of entries key_of keys_of same_key numbered alike number_like numbers_to numbers_of number_below side_of counts is_unequal owner_by sides_by used_by cited_by paired_by met_by each_by congruent_by adds_by added_by derives_by follows_by differs_by_steps concludes_by first_false assigned_by choose concluded_by verdict_by same_list conclusion_for variables equations_of differences_of
computed = (refl, refl)

bare-text : text_of lullaby ≡ lullaby
unfolding lullaby bytes text_part begins
bare-text = refl

bare-lines :
    (places_in (ground_lines lullaby) ≡ replicate 4 255)
    × (given_in lullaby ≡ [])
    × (conclusions_in (drop 1 (ground_lines lullaby)) ≡ [])
unfolding lullaby bytes text_part begins lines_of lines_from places_in steps_in conclusions_in
bare-lines = (refl, refl, refl)

-- ---- the lines for them

-- an input that is the lullaby, and behind it these steps and conclusions
line-for : (input a : List ℕ) (steps : List (List ℕ)) (ds : List Conclusion) (v : Verdict) → text_of input ≡ lullaby → places_in (ground_lines input) ≡ a → given_in input ≡ steps
    → conclusions_in (drop 1 (ground_lines input)) ≡ ds
    → length steps ≤ 8
    → verdict_on a (steps_of steps) ds ≡ v
    → VerifyPrints narrow input (printed (judged v))
line-for input a steps ds v t p s d few e =
    judges (omega (arith, ap length t, lullaby-short)) (omega (arith, ap length s)) (judged v) (rw (p, s, d, t) (lullaby-judged a (steps_of steps) ds v e))

module _ (f : List ℕ → List ℕ) (right : (input : List ℕ) → VerifyPrints narrow input (f input)) where
  pub some-accepted : f grounded ≡ bytes "0B00\n"
  unfolding printed bytes_of frame hex digit_of case_of details_of bytes
  some-accepted =
      verify-one narrow grounded (f grounded) (printed (judged accepted)) (right grounded)
      (line-for grounded places grounds ends accepted grounded-text grounded-lines.0 grounded-lines.1 grounded-lines.2 (omega arith)
      computed.0)

  pub some-unassigned : f lullaby ≡ bytes "0B0100\n"
  unfolding printed bytes_of frame hex digit_of case_of details_of bytes steps_of
  some-unassigned =
      verify-one narrow lullaby (f lullaby) (printed (judged (unassigned 0))) (right lullaby)
      (line-for lullaby (replicate 4 255) [] [] (unassigned 0) bare-text bare-lines.0 bare-lines.1 bare-lines.2 (omega arith) computed.1)

  -- prints one line for both; prints nothing
  pub no-always-alike : f grounded ≡ f lullaby → ⊥
  unfolding bytes
  no-always-alike e = omega (arith, ap length (sym some-accepted ∙ e ∙ some-unassigned))

  pub no-silent : f grounded ≡ [] → ⊥
  unfolding bytes
  no-silent e = omega (arith, ap length (sym some-accepted ∙ e))
