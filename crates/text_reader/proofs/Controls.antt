-- The reader's promise tried at small texts.
--     some-taken      the empty text is taken
--     rank-and-count  two lines: a variable, and a row with five arguments
--     some-rank       the second is refused by 4
--     no-count-first  and by nothing else
--     no-line-zero    lines are counted from 1
-- Assumes nothing.
use mathlib.Core.List.{List, [], ◌∷◌}
use mathlib.Core.Path.{◌≡◌, refl, sym, ◌∙◌}
use Prim.Native.Nat.{ℕ}
use native.Mathlib.Omega.{arith}
use Rattle.meaning.specs.Text as M
use Rattle.meaning.specs.Text.{read, read_lines, narrow, lines_of, lines_from, digit, fields, is_listed, listed_as, size_of, entry_of, rank_of, put, put_context, put_clause, legible, non_digit, first_failing, is_nowhere, known, sized, ranked, refers, no_row, named_by, table_of, agrees, rows_agree, patterns_agree, tests_of, first_fault, offset_of, spot_or, bad_byte}
use Rattle.text_runs.specs.Reads.{told_by, told_of, Reads}
use Rattle.text_runs.specs.declared.Told.{Told}

pub rank-and-count : List ℕ
rank-and-count =
    48 ∷ 52 ∷ 48 ∷ 48 ∷ 10 ∷ 48 ∷ 49 ∷ 48 ∷ 48 ∷ 48 ∷ 49 ∷ 48 ∷ 53 ∷ 48 ∷ 48 ∷ 48 ∷ 48 ∷ 48 ∷ 48 ∷ 48 ∷ 48 ∷ 48 ∷ 48 ∷ 10 ∷ []

pub some-taken : told_of (read narrow []) ≡ []
unfolding read read_lines lines_of lines_from
some-taken = refl

pub some-rank : told_of (read narrow rank-and-count) ≡ 4 ∷ 2 ∷ 0 ∷ []
unfolding rank-and-count read read_lines lines_of lines_from digit fields is_listed listed_as size_of entry_of rank_of put put_context put_clause legible non_digit first_failing is_nowhere known sized ranked M.room refers no_row named_by table_of agrees rows_agree patterns_agree tests_of first_fault offset_of spot_or bad_byte
some-rank = refl

pub no-count-first : (r : Told) → Reads rank-and-count r → told_by r.answer ≡ 5 ∷ 2 ∷ 0 ∷ [] → ⊥
no-count-first r h e = let z : ◌≡◌ {A = List ℕ} (4 ∷ 2 ∷ 0 ∷ []) (5 ∷ 2 ∷ 0 ∷ []) = sym some-rank ∙ sym h.told ∙ e in let y : ◌≡◌ {A = ℕ} 4 5 = cc in omega arith

-- a line feed alone
some-line : told_of (read narrow (10 ∷ [])) ≡ 1 ∷ 1 ∷ 0 ∷ []
unfolding read read_lines lines_of lines_from digit fields is_listed listed_as size_of entry_of rank_of put put_context put_clause legible non_digit first_failing is_nowhere known sized ranked M.room refers no_row named_by table_of agrees rows_agree patterns_agree tests_of first_fault offset_of spot_or bad_byte
some-line = refl

pub no-line-zero : (r : Told) → Reads (10 ∷ []) r → told_by r.answer ≡ 1 ∷ 0 ∷ 0 ∷ [] → ⊥
no-line-zero r h e = let z : ◌≡◌ {A = List ℕ} (1 ∷ 1 ∷ 0 ∷ []) (1 ∷ 0 ∷ 0 ∷ []) = sym some-line ∙ sym h.told ∙ e in let y : ◌≡◌ {A = ℕ} 1 0 = cc in omega arith
