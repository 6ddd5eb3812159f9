-- What differs does not go into the normal text: a normaliser that goes by it, in place of what is kept apart, is shut out by demand 3, on f(a) and f(b) that
-- differ, with and without the difference of a and b. The same rows differ in both, since that of a and b follows; only in the one are a and b kept apart.
--     AlikeWider      the same rows are equal, and the same rows differ
--     images-alike    it is so of the two contexts
--     no-wider-text   the normaliser
-- Assumes nothing.
use mathlib.Core.List.{List, [], ◌∷◌}
use mathlib.Core.Path.{◌≡◌, refl}
use mathlib.Core.Logic.{inl, ◌↔◌}
use Prim.Native.Nat.{ℕ, zero, suc, ◌<◌}
use native.Mathlib.Omega.{arith}
use lib.ListN.{length}
use Rattle.meaning.specs.Context.{Term, terms, grow, pick, term_at, Statement, differ, Context, equations_of, differences_of}
use Rattle.meaning.specs.Equality.{EqualIn, ApartIn, reflexive, congruent, same_stop, same_more}
use Rattle.meaning.specs.Rules.{Differ}
use Rattle.meaning.specs.Text.{taken, ledger_of, clause_of, read, narrow, read_lines, lines_of, lines_from, digit, fields, is_listed, listed_as, size_of, entry_of, rank_of, put_context, put, put_clause, first_failing, is_nowhere, non_digit, legible, known, sized, ranked, room, named_by, table_of, no_row, refers, rows_agree, patterns_agree, agrees, tests_of, first_fault}
use Rattle.meaning.specs.Formed.{Fit}
use Rattle.meaning.specs.ByTable.{same_list, clash_of, clash_from, apart_by}
use Rattle.meaning.specs.Sheet.{bytes}
use Rattle.meaning.specs.Demands.{Alike, Normaliser, Gives, KeepsMeaning, Tells}
use Rattle.meaning.specs.Closing.{move, total, close, agree, rounds, round, rows_pass, row_pass, stated_pass, upto, unite, unite_if, count}
use Rattle.meaning.proofs.Logic.{false-true}
use Rattle.meaning.proofs.Promised.{closing-represents}
use Rattle.meaning.proofs.Apartness.{clash-clear, apart-rows}
use Rattle.meaning.proofs.Taken.{read-formed}
use Rattle.meaning.proofs.Computed.{rep_of}

pub record AlikeWider (c d : Context) : Type 0 where
  pub equal : (i j : ℕ) → i < length c.rows → j < length c.rows
      → EqualIn c (term_at c.rows i) (term_at c.rows j) ↔ EqualIn d (term_at d.rows i) (term_at d.rows j)
  pub differ : (i j : ℕ) → i < length c.rows → j < length c.rows
      → Differ c (term_at c.rows i) (term_at c.rows j) ↔ Differ d (term_at d.rows i) (term_at d.rows j)

-- the rows a, b, f(a), f(b)
abbrev stating : List Statement → Context
stating l =
    record {
      rows =
          record { symbol = 1; args = [] }
          ∷ record { symbol = 2; args = [] }
          ∷ record { symbol = 257; args = 0 ∷ [] }
          ∷ record { symbol = 257; args = 1 ∷ [] }
          ∷ [];
      statements = l;
    }

abbrev images : Context
images = stating (differ 2 3 ∷ [])

abbrev images_too : Context
images_too = stating (differ 2 3 ∷ differ 0 1 ∷ [])

unfoldable pub images_text : List ℕ
images_text = bytes "01000100\n01000200\n0101010100\n0101010101\n030203\n"

unfoldable pub images_too_text : List ℕ
images_too_text = bytes "01000100\n01000200\n0101010100\n0101010101\n030203\n030001\n"

pub images-alike : AlikeWider images images_too
unfolding equations_of differences_of terms grow pick
images-alike = record { equal = λ i j hi hj. (λ e. e, λ e. e); differ = λ i j hi hj. (to _ _, back _ _) }
  where
    to : (t u : Term) → Differ images t u → Differ images_too t u
    to t u (zero, h, e) = (0, omega arith, e)
    to t u (suc k, h, e) = absurd (omega arith)

    back : (t u : Term) → Differ images_too t u → Differ images t u
    back t u (zero, h, e) = (0, omega arith, e)
    back t u (suc zero, h, e) = (0, omega arith, congruent (same_more e same_stop))
    back t u (suc (suc k), h, e) = absurd (omega arith)

images-read : read narrow images_text ≡ taken (record { rank = 2; ledger = ledger_of images.rows images.statements 0 1; clause = clause_of [] [] })
unfolding images_text bytes read read_lines lines_of lines_from digit fields is_listed listed_as size_of entry_of rank_of put_context put_clause put first_failing is_nowhere non_digit legible known sized ranked room named_by table_of no_row refers rows_agree patterns_agree agrees tests_of first_fault
images-read = refl

images-too-read : read narrow images_too_text ≡ taken (record { rank = 2; ledger = ledger_of images.rows images_too.statements 0 2; clause = clause_of [] [] })
unfolding images_too_text bytes read read_lines lines_of lines_from digit fields is_listed listed_as size_of entry_of rank_of put_context put_clause put first_failing is_nowhere non_digit legible known sized ranked room named_by table_of no_row refers rows_agree patterns_agree agrees tests_of first_fault
images-too-read = refl

images-tells : Tells images_text images
unfolding clash_of clash_from equations_of differences_of same_list close rounds round rows_pass row_pass stated_pass upto unite_if agree unite count move total
images-tells =
    let f : Fit images = (read-formed narrow images_text _ images-read).fit in
    record { all = _; reads = images-read; context = refl; consistent = clash-clear images f (rep_of images) (closing-represents images f) refl }

images-too-tells : Tells images_too_text images_too
unfolding clash_of clash_from equations_of differences_of same_list close rounds round rows_pass row_pass stated_pass upto unite_if agree unite count move total
images-too-tells =
    let f : Fit images_too = (read-formed narrow images_too_text _ images-too-read).fit in
    record { all = _; reads = images-too-read; context = refl; consistent = clash-clear images_too f (rep_of images_too) (closing-represents images_too f) refl }

images-apart : ApartIn images (term_at images.rows 0) (term_at images.rows 1) → ⊥
unfolding apart_by equations_of differences_of same_list close rounds round rows_pass row_pass stated_pass upto unite_if agree unite count move total
images-apart w =
    let f : Fit images = (read-formed narrow images_text _ images-read).fit in
    false-true ((apart-rows images f (rep_of images) (closing-represents images f) 0 1 (omega arith) (omega arith)).0 w) refl

-- one text wherever the same rows are equal and the same rows differ
pub no-wider-text : (n : Normaliser) → KeepsMeaning n
    → ((s t u v : List ℕ) (c d : Context) → Tells s c → Tells t d → c.rows ≡ d.rows → AlikeWider c d → Gives n s u → Gives n t v → u ≡ v)
    → (u v : List ℕ) → Gives n images_text u → Gives n images_too_text v → ⊥
unfolding equations_of differences_of
no-wider-text n m wider u v g h =
    let e : u ≡ v = wider images_text images_too_text u v images images_too images-tells images-too-tells refl images-alike g h in
    let a : Alike images images_too = (m.agree images_text images_too_text u v images images_too images-tells images-too-tells refl g h).0 e in
    images-apart ((a.apart 0 1 (omega arith) (omega arith)).1 (1, omega arith, inl (reflexive, reflexive)))
