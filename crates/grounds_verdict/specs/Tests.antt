-- The tests of `meaning` over the runs that the code is lent: the keys and the numbers of the entries, of which the first n are context rows,
-- pairs of numbers, literals, and steps.
--     FirstFalse                       the first place where a test fails, or none where it holds at all of them
--     instances_in                     how many of the entries are instances
--     concluded_in                     the conclusions, one for each literal
--     kind_at, numbers_at               the kind and the four numbers of step i
--     cited_at, met_at                  a step cited, and two that meet
--     each_at, congruent_at             a step for each two arguments; a symbol over them
--     owned_at, added_at                whether an owner is an unequal literal; the equation that it adds
--     derives_at, follows_at            a step by its kind, and by its owner and its sides too
--     differs_at, concluded_at          a step with the sides of a stated difference; a literal concluded
--     follows_with, concluded_with      a step and a literal by the statements in the place of pairs
-- Assumes nothing.
use Rattle.std.specs.Prelude.{Bool, true, false, ◌&&◌, List, ℕ, ◌+◌, ◌-◌, ◌*◌, ◌<◌, length, Option, Some, None}
use Rattle.meaning.specs.Grounds.{Conclusion, literal_at}
use Rattle.meaning.specs.Checking.{Ends, counts, is_unequal, numbered, cited_by, met_by, each_by, congruent_by, added_by, derives_by, follows_by, differs_by_steps, concluded_by}
use Rattle.meaning.specs.GroundColumns.{kind_in, numbers_in, conclusions_from}
use Rattle.runs.specs.Limits.{most_literals, row_size}
use Rattle.runs.specs.Runs.{args_from, row_in, rows_of, statements_of, literals_of}
use Rattle.grounds_steps.specs.Steps.{word_in, steps_of}
use Rattle.grounds_numbers.specs.Pairs.{pairs_in, pairs_of}
use Rattle.grounds_verdict.specs.declared.Conclusions.{Conclusions}

abbrev pub FirstFalse : (ℕ → Bool) → ℕ → Option ℕ → Type 0
FirstFalse test n None = Ends test n n
FirstFalse test n (Some i) = (i < n) × Ends test n i

abbrev pub instances_in : List ℕ → ℕ → ℕ
instances_in ns n = length ns - n

abbrev pub concluded_in : Conclusions → List Conclusion
concluded_in d = conclusions_from d.firsts d.differences most_literals

-- ---- steps

abbrev pub kind_at : List (List ℕ) → ℕ → ℕ
kind_at steps i = kind_in (word_in steps i 0)

abbrev pub numbers_at : List (List ℕ) → ℕ → List ℕ
numbers_at steps i = numbers_in (word_in steps i 1) (word_in steps i 2)

abbrev pub cited_at : List ℕ → ℕ → List (List ℕ) → ℕ → ℕ → ℕ → ℕ → ℕ → Bool
cited_at ns n steps limit o x l r = cited_by ns n (instances_in ns n) (steps_of steps) limit o x l r

abbrev pub met_at : List ℕ → ℕ → List (List ℕ) → ℕ → ℕ → ℕ → ℕ → ℕ → ℕ → Bool
met_at ns n steps limit o x y l r = met_by ns n (instances_in ns n) (steps_of steps) limit o x y l r

-- the first count arguments of entries l and r, by the numbers of step i
abbrev pub each_at : List ℕ → List ℕ → ℕ → List (List ℕ) → ℕ → ℕ → ℕ → ℕ → ℕ → Bool
each_at keys ns n steps i o l r count =
    each_by ns n (instances_in ns n) (steps_of steps) i o (numbers_at steps i) 0 (args_from keys (l * row_size + 2) count) (args_from keys (r * row_size + 2) count)

abbrev pub congruent_at : List ℕ → List ℕ → ℕ → List (List ℕ) → ℕ → ℕ → ℕ → ℕ → Bool
congruent_at keys ns n steps i o l r = congruent_by ns n (instances_in ns n) (steps_of steps) i o (numbers_at steps i) (row_in keys l) (row_in keys r)

abbrev pub owned_at : List ℕ → ℕ → Bool
owned_at literals o = counts (length (literals_of literals)) o && is_unequal (literal_at (literals_of literals) (o - 1))

abbrev pub added_at : List ℕ → List ℕ → ℕ → ℕ → ℕ → ℕ → Bool
added_at literals ns n o l r = added_by ns n (instances_in ns n) (literals_of literals) o l r

abbrev pub derives_at : List ℕ → List ℕ → List ℕ → List ℕ → ℕ → List (List ℕ) → ℕ → ℕ → ℕ → ℕ → Bool
derives_at keys pairs literals ns n steps i o l r =
    derives_by ns n (instances_in ns n) (rows_of keys) (pairs_in pairs) (literals_of literals) (steps_of steps) i o (kind_at steps i) (numbers_at steps i) l r

abbrev pub follows_at : List ℕ → List ℕ → List ℕ → List ℕ → ℕ → List (List ℕ) → ℕ → Bool
follows_at keys pairs literals ns n steps i = follows_by ns n (instances_in ns n) (rows_of keys) (pairs_in pairs) (literals_of literals) (steps_of steps) i

abbrev pub follows_with : List ℕ → List ℕ → List ℕ → List ℕ → ℕ → List (List ℕ) → ℕ → Bool
follows_with said literals keys ns n steps i =
    follows_by ns n (instances_in ns n) (rows_of keys) (numbered ns (pairs_of true (statements_of said))) (literals_of literals) (steps_of steps) i

-- ---- conclusions

abbrev pub differs_at : List ℕ → List ℕ → ℕ → List (List ℕ) → ℕ → ℕ → ℕ → Bool
differs_at pairs ns n steps o x difference =
    differs_by_steps ns n (instances_in ns n) (pairs_in pairs) (steps_of steps) o (record { literal = o; first = x; difference = difference })

abbrev pub concluded_at : List ℕ → Conclusions → List ℕ → List ℕ → ℕ → List (List ℕ) → ℕ → Bool
concluded_at literals d pairs ns n steps j = concluded_by ns n (instances_in ns n) (pairs_in pairs) (literals_of literals) (steps_of steps) (concluded_in d) j

abbrev pub concluded_with : List ℕ → List ℕ → List ℕ → ℕ → List (List ℕ) → Conclusions → ℕ → Bool
concluded_with said literals ns n steps d j =
    concluded_by ns n (instances_in ns n) (numbered ns (pairs_of false (statements_of said))) (literals_of literals) (steps_of steps) (concluded_in d) j
