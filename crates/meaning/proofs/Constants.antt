-- The most rows: a text of constants is read without a fault up to 255 rows, and the line after them is refused by 5.
--     constants            a text of n lines, each the same constant
--     constants-taken      up to 255 of them are taken, as so many rows
--     constants-refused    the 256th line is one too many
-- Assumes nothing.
use mathlib.Core.List.{List, [], ◌∷◌, ◌++◌, append_assoc, append-nil}
use mathlib.Core.Path.{◌≡◌, refl, ap, sym, ◌∙◌}
use Prim.Native.Nat.{ℕ, zero, suc, ◌+◌, ◌≤◌, ◌<◌}
use native.Mathlib.Omega.{arith}
use borrow.Author.Tests.{le-leb, le-ltb}
use lib.ListN.{length, replicate, length-replicate, get_or-replicate}
use Rattle.meaning.specs.Context.{Row, Context, equations_of, differences_of, row_at, row₀}
use Rattle.meaning.specs.Rules.{Below}
use Rattle.meaning.specs.Text.{narrow, taken, Read, read, rows_of, tests_of, legible, non_digit, first_failing, is_nowhere, digit, fields, known, is_listed, listed_as, sized, size_of, entry_of, ranked, rank_of, room, first_fault, lines_of, lines_from, faulty, read_lines, offset_of}
use Rattle.meaning.specs.Writing.{frame, context_text, statements_text, rows_text, hex, digit_of}
use Rattle.meaning.proofs.Lines.{Each, fault_in, whole, frame-line, read-stop}
use Rattle.meaning.proofs.Kept.{RowFits, rank_held}
use Rattle.meaning.proofs.Counts.{RowCounted, RowSays}
use Rattle.meaning.proofs.ReadBack.{Writable, holding, text-taken, narrow-bytes, rank-rows, read_back_lem}

abbrev constant : Row
constant = record { symbol = 1; args = [] }

-- the line 01000100
abbrev bytes_of : List ℕ
bytes_of = 1 ∷ 0 ∷ 1 ∷ 0 ∷ []

abbrev line : List ℕ
line = frame bytes_of

unfoldable pub constants : ℕ → List ℕ
constants zero = []
constants (suc n) = line ++ constants n

abbrev table : ℕ → Context
table n = record { rows = replicate n constant; statements = [] }

constants-text : (n : ℕ) → constants n ≡ context_text (table n)
unfolding constants context_text statements_text rows_text
constants-text zero = refl
constants-text (suc n) = rw append-nil (ap (λ x. line ++ x) (constants-text n ∙ append-nil (rows_text (replicate n constant))))

constants-snoc : (n : ℕ) → constants (suc n) ≡ constants n ++ line
unfolding constants
constants-snoc zero = append-nil line
constants-snoc (suc n) = ap (λ x. line ++ x) (constants-snoc n) ∙ sym (append_assoc line (constants n) line)

each-replicate : {A : Type 0} (P : A → Type 0) (n : ℕ) (a : A) → P a → Each P (replicate n a)
each-replicate P zero a p = tt
each-replicate P (suc n) a p = (p, each-replicate P n a p)

table-writable : (n : ℕ) → n ≤ 255 → Writable narrow (table n)
unfolding equations_of differences_of
table-writable n h =
    record {
      fit = record { ordered = first; within = λ k l. absurd (omega arith); apart = λ k l. absurd (omega arith) };
      fits =
          record {
            few_rows = omega (arith, length-replicate n constant);
            few_equations = omega arith;
            few_differences = omega arith;
            rows_fit = each-replicate (RowFits narrow) n constant (omega arith, (omega arith, tt));
          };
      agreed =
          record {
            of_rows = each-replicate (RowCounted (replicate n constant) []) n constant record { in_rows = each-replicate (RowSays 1 0) n constant (λ e. refl); in_patterns = tt };
            of_patterns = tt;
          };
    }
  where
    first : (i : ℕ) → i < length (replicate n constant) → Below i (row_at (replicate n constant) i).args
    first i l = rw (get_or-replicate n i constant row₀ (omega (arith, length-replicate n constant))) tt

pub constants-taken : (n : ℕ) → n ≤ 255 → (s : Read) × (read narrow (constants n) ≡ taken s) × (length (rows_of s) ≡ n)
unfolding holding
constants-taken n h =
    (holding (replicate n constant) [], ap (λ x. read narrow x) (constants-text n) ∙ text-taken narrow narrow-bytes (table n) (table-writable n h), length-replicate n constant)

-- no room for the line
line-over : (rs : List Row) → 255 ≤ length rs → fault_in narrow (whole (hex bytes_of)) (holding rs []) ≡ 5
unfolding fault_in tests_of legible non_digit first_failing is_nowhere digit fields hex digit_of known is_listed listed_as sized size_of entry_of ranked rank_of room holding first_fault
line-over rs h = rw (le-leb (rank_held rs [] [] []) 1 (rank-rows rs), le-ltb (length rs) 255 h)

line-alone : lines_of line ≡ whole (hex bytes_of) ∷ []
unfolding lines_of lines_from
line-alone = ap lines_of (sym (append-nil line)) ∙ frame-line bytes_of []

constants-over : (n : ℕ) → n ≡ 255 → read narrow (constants (suc n)) ≡ faulty (record { number = 5; place = suc n; offset = 0 })
unfolding offset_of
constants-over n h =
    ap (λ x. read narrow x) (constants-snoc n ∙ ap (λ x. x ++ line) (constants-text n))
    ∙ read_back_lem narrow narrow-bytes (table n) (table-writable n (omega arith)) line
    ∙ ap (λ x. read_lines narrow (suc (length rs + 0)) (holding rs []) x) line-alone
    ∙ read-stop narrow (suc (length rs + 0)) (holding rs []) (whole (hex bytes_of)) [] 4 (line-over rs (omega (arith, length-replicate n constant)))
    ∙ ap (λ (m : ℕ). faulty (record { number = 5; place = m; offset = 0 })) (omega (arith, length-replicate n constant))
  where
    rs : List Row
    rs = replicate n constant

pub constants-refused : read narrow (constants 256) ≡ faulty (record { number = 5; place = 256; offset = 0 })
constants-refused = constants-over 255 refl
