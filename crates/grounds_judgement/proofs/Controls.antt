-- The checker's claim tried on one text, the lullaby of the sheet: useless candidates fail it.
--     lullaby           the text; `lullaby-breach` is the finder's reply
--     lullaby-judged    a verdict that is computed is its judgement
--     Checker, Right    a candidate; it answers as claimed
--     some-..           what each candidate that does answers to the lullaby's grounds, and to these changed
--     no-..             a candidate that is shut out by its answers on this text
-- Assumes nothing.
use mathlib.Core.List.{List, [], ◌∷◌}
use mathlib.Core.Path.{◌≡◌, refl, sym, ◌∙◌, subst}
use Prim.Native.Nat.{ℕ, ◌+◌, ◌*◌, ◌≤◌}
use Rattle.std.specs.Prelude.{Result, Ok, Err}
use native.Mathlib.Omega.{arith}
use lib.ListN.{length, replicate}
use Rattle.meaning.specs.Context.{Row, Context, Statement, same, differ, equations_of, differences_of}
use Rattle.meaning.specs.Equality.{Consistent}
use Rattle.meaning.specs.Rules.{Pattern, variable, apply, variables, Literal, equal, unequal, Clause}
use Rattle.meaning.specs.Text.{narrow, Read, Reading, read, taken, ledger_of, clause_of, read_lines, lines_of, lines_from, digit, fields, is_listed, listed_as, size_of, entry_of as entry_on, rank_of, put_context, put_clause, put, first_failing, is_nowhere, non_digit, legible, known, sized, ranked, room, named_by, table_of, no_row, refers, rows_agree, patterns_agree, agrees, tests_of, first_fault}
use Rattle.meaning.specs.Replies as M
use Rattle.meaning.specs.Replies.{Replies, RepliesTo}
use Rattle.meaning.specs.ByTable.{same_list}
use Rattle.meaning.specs.Sheet.{sheet, bytes}
use Rattle.meaning.specs.Grounds.{Step, Conclusion, conclusion_for, Verdict}
use Rattle.meaning.specs.GroundColumns.{step_from, conclusion_from, conclusions_from}
use Rattle.meaning.specs.Checking.{entry_of, entries, key_of, keys_of, same_key, numbered, alike, number_like, numbers_to, numbers_of, number_below, side_of, counts, is_unequal, owner_by, sides_by, used_by, cited_by, paired_by, met_by, each_by, congruent_by, adds_by, added_by, derives_by, follows_by, differs_by_steps, concludes_by, first_false, assigned_by, choose, concluded_by, verdict_by}
use Rattle.grounds_steps.specs.Steps.{words_of, steps_of}
use Rattle.meaning.proofs.Sheet.{sheet-shown}
use Rattle.meaning.proofs.Taken.{read-formed}
use Rattle.meaning.proofs.Verdicts.{verdict_by-verified}
use Rattle.grounds_verdict.specs.declared.Conclusions.{Conclusions}
use Rattle.grounds_verdict.specs.declared.Fault.{Fault}
use Rattle.grounds_verdict.specs.declared.Fault.TheVariants.{Unassigned, Bad, Unconcluded}
use Rattle.grounds_verdict.specs.Claims.{verdict_of}
use Rattle.grounds_judgement.specs.Judgements.{judged, weighs, Judges, judges}
use Rattle.grounds_judgement.specs.Claims.{Outcome, concluded_in, JudgesTo}
use Rattle.grounds_judgement.proofs.Answers.{judges-one}

abbrev pub Checker : Type 0
Checker = (text a : List ℕ) (steps : List (List ℕ)) (d : Conclusions) → Outcome

abbrev pub Right : Checker → Type 0
Right f = (text a : List ℕ) (steps : List (List ℕ)) (d : Conclusions) → JudgesTo text a steps d (f text a steps d)

-- ---- the lullaby

unfoldable pub lullaby : List ℕ
lullaby = bytes "01001000\n01001100\n01001200\n01001300\n0100200100\n0100210100\n0100210101\n020401\n020503\n020602\n030203\n0400\n0401\n0500200100\n0500210100\n0500210101\n060201\n070304\n"

abbrev rows : List Row
rows =
    record { symbol = 16; args = [] }
    ∷ record { symbol = 17; args = [] }
    ∷ record { symbol = 18; args = [] }
    ∷ record { symbol = 19; args = [] }
    ∷ record { symbol = 32; args = 0 ∷ [] }
    ∷ record { symbol = 33; args = 0 ∷ [] }
    ∷ record { symbol = 33; args = 1 ∷ [] }
    ∷ []

abbrev statements : List Statement
statements = same 4 1 ∷ same 5 3 ∷ same 6 2 ∷ differ 2 3 ∷ []

abbrev patterns : List Pattern
patterns = variable 0 ∷ variable 1 ∷ apply 32 (0 ∷ []) ∷ apply 33 (0 ∷ []) ∷ apply 33 (1 ∷ []) ∷ []

abbrev literals : List Literal
literals = equal 2 1 ∷ unequal 3 4 ∷ []

abbrev pub said : Read
said = record { rank = 4; ledger = ledger_of rows statements 3 1; clause = clause_of patterns literals }

reads : read narrow lullaby ≡ taken said
unfolding lullaby bytes read read_lines lines_of lines_from digit fields is_listed listed_as size_of entry_on rank_of put_context put_clause put first_failing is_nowhere non_digit legible known sized ranked room named_by table_of no_row refers rows_agree patterns_agree agrees tests_of first_fault
reads = refl

judged-consistent : (c : Context) (k : Clause) (u : M.Reply) (a : List ℕ) → u ≡ M.breach a → M.Judged c k u → Consistent c
judged-consistent c k u a e (M.empty l) = absurd (let z : ◌≡◌ {A = ℕ} 0 1 = cc in omega arith)
judged-consistent c k u a e (M.clashes l n h) = absurd (let z : ◌≡◌ {A = ℕ} 0 1 = cc in omega arith)
judged-consistent c k u a e (M.answers l h q w) = h

pub lullaby-short : length lullaby ≤ 16384
unfolding lullaby bytes
lullaby-short = omega arith

pub lullaby-breach : Replies narrow lullaby (M.breach (0 ∷ 1 ∷ []))
unfolding sheet lullaby
lullaby-breach = sheet-shown.0

consistent : Consistent said.ledger.context
consistent =
    judged-consistent said.ledger.context said.clause (M.breach (0 ∷ 1 ∷ [])) (0 ∷ 1 ∷ []) refl
    (subst (λ (y : Reading). RepliesTo y (M.breach (0 ∷ 1 ∷ []))) reads lullaby-breach)

-- ---- its grounds

-- owner, kind, and two terms by mark and row; two numbers
abbrev word : ℕ → ℕ → ℕ → ℕ → ℕ → ℕ → ℕ
word owner kind mark row mark' row' = ((((owner * 256 + kind) * 256 + mark) * 65536 + row) * 256 + mark') * 65536 + row'

abbrev two : ℕ → ℕ → ℕ
two x y = x * 4294967296 + y

abbrev pub grounds : List (List ℕ)
grounds =
    words_of (word 0 1 0 4 0 1) (two 1 0) 0
    ∷ words_of (word 0 1 0 5 0 3) (two 2 0) 0
    ∷ words_of (word 0 1 0 6 0 2) (two 3 0) 0
    ∷ words_of (word 0 3 0 2 0 6) (two 3 0) 0
    ∷ words_of (word 2 6 1 3 1 4) (two 0 0) 0
    ∷ words_of (word 2 3 1 4 1 3) (two 5 0) 0
    ∷ words_of (word 2 4 0 2 1 3) (two 4 6) 0
    ∷ words_of (word 2 4 0 2 0 3) (two 7 2) 0
    ∷ []

-- a step of kind 00
abbrev no_step : List (List ℕ)
no_step = words_of 0 0 0 ∷ []

abbrev pub places : List ℕ
places = 0 ∷ 1 ∷ 255 ∷ 255 ∷ []

abbrev ends : Conclusions
ends = record { firsts = 1 ∷ 8 ∷ replicate 14 0; differences = 0 ∷ 1 ∷ replicate 14 0 }

abbrev no_ends : Conclusions
no_ends = record { firsts = replicate 16 0; differences = replicate 16 0 }

abbrev pub verdict_on : List ℕ → List Step → List Conclusion → Verdict
verdict_on a steps ds = verdict_by said.ledger.context said.clause a steps ds

abbrev verdict : List ℕ → List (List ℕ) → Conclusions → Verdict
verdict a steps d = verdict_on a (steps_of steps) (concluded_in d)

computed :
    (verdict places grounds ends ≡ verdict_of (Ok tt))
    × (verdict (replicate 4 255) grounds ends ≡ verdict_of (Err (Unassigned 0)))
    × (verdict places no_step ends ≡ verdict_of (Err (Bad 1)))
    × (verdict places grounds no_ends ≡ verdict_of (Err (Unconcluded 1)))
unfolding steps_of step_from conclusion_from conclusions_from entry_of entries key_of keys_of same_key numbered alike number_like numbers_to numbers_of number_below side_of counts is_unequal owner_by sides_by used_by cited_by paired_by met_by each_by congruent_by adds_by added_by derives_by follows_by differs_by_steps concludes_by first_false assigned_by choose concluded_by verdict_by same_list conclusion_for variables equations_of differences_of
computed = (refl, refl, refl, refl)

-- what is computed is the judgement
pub lullaby-judged : (a : List ℕ) (steps : List Step) (ds : List Conclusion) (v : Verdict) → verdict_on a steps ds ≡ v → Judges a steps ds narrow lullaby (judged v)
lullaby-judged a steps ds v e =
    judges said reads (judged v)
    (weighs (λ z. let o : ◌≡◌ {A = ℕ} 0 1 = cc in omega arith) consistent v
    (rw e at (verdict_by-verified said.ledger.context said.clause a steps ds (read-formed narrow lullaby said reads))))

judged-so : (a : List ℕ) (steps : List (List ℕ)) (d : Conclusions) (v : Result (Unit {0}) Fault) → verdict a steps d ≡ verdict_of v
    → JudgesTo lullaby a steps d (Ok v)
judged-so a steps d v e = record { judges = lullaby-judged a (steps_of steps) (concluded_in d) (verdict_of v) e }

module _ (f : Checker) (right : Right f) where
  answers : (a : List ℕ) (steps : List (List ℕ)) (d : Conclusions) (v : Result (Unit {0}) Fault) → verdict a steps d ≡ verdict_of v → f lullaby a steps d ≡ Ok v
  answers a steps d v e =
      judges-one lullaby a steps d (f lullaby a steps d) (Ok v) (right lullaby a steps d) (judged-so a steps d v e)

  -- the grounds as they are; without an assignment; a step of kind 00; without conclusions
  pub some-accepted : f lullaby places grounds ends ≡ Ok (Ok tt)
  some-accepted = answers places grounds ends (Ok tt) computed.0

  pub some-unassigned : f lullaby (replicate 4 255) grounds ends ≡ Ok (Err (Unassigned 0))
  some-unassigned = answers (replicate 4 255) grounds ends (Err (Unassigned 0)) computed.1

  pub some-bad : f lullaby places no_step ends ≡ Ok (Err (Bad 1))
  some-bad = answers places no_step ends (Err (Bad 1)) computed.2

  pub some-open : f lullaby places grounds no_ends ≡ Ok (Err (Unconcluded 1))
  some-open = answers places grounds no_ends (Err (Unconcluded 1)) computed.3

  -- accepts nothing
  pub no-rejecting : ((a : List ℕ) (steps : List (List ℕ)) (d : Conclusions) → f lullaby a steps d ≡ Ok (Ok tt) → ⊥) → ⊥
  no-rejecting h = h places grounds ends some-accepted

  -- accepts whatever stands behind an assignment
  pub no-accepting : ((steps : List (List ℕ)) (d : Conclusions) → f lullaby places steps d ≡ Ok (Ok tt)) → ⊥
  no-accepting h =
      let e : Ok (Ok tt) ≡ Ok (Err (Bad 1)) = sym (h no_step ends) ∙ some-bad in let z : ◌≡◌ {A = ℕ} 0 1 = cc in omega arith

  -- accepts steps that hold together, whatever is concluded
  pub no-unconcerned : ((d : Conclusions) → f lullaby places grounds d ≡ Ok (Ok tt)) → ⊥
  no-unconcerned h = let e : Ok (Ok tt) ≡ Ok (Err (Unconcluded 1)) = sym (h no_ends) ∙ some-open in let z : ◌≡◌ {A = ℕ} 0 1 = cc in omega arith

  -- names a variable whatever the assignment
  pub no-unassigning : ((a : List ℕ) → (v : ℕ) × (f lullaby a grounds ends ≡ Ok (Err (Unassigned v)))) → ⊥
  no-unassigning h =
      let e : Ok (Err (Unassigned (h places).0)) ≡ Ok (Ok tt) = sym (h places).1 ∙ some-accepted in let z : ◌≡◌ {A = ℕ} 0 1 = cc in omega arith
