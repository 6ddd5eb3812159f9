-- The runs that are told say the context and the rule that were read.
--     numbers-snoc                          the numbers of one piece more
--     filled-part                           the filled part of a run is the numbers of what it holds
--     told-kept                             what is told is within the limits
--     says-context, says-clause             the filled parts of the runs say what was read
-- Assumes nothing.
use mathlib.Core.List.{List, [], ◌∷◌, ◌++◌, append_assoc, append-nil}
use mathlib.Core.Path.{◌≡◌, refl, sym, ap, ap₂, ◌∙◌}
use Prim.Native.Nat.{ℕ, ◌+◌, ◌-◌, ◌*◌, ◌≤◌}
use native.Mathlib.Nat.{suc-mul, zero-mul}
use native.Mathlib.Numerals.{add-one}
use native.Mathlib.Omega.{arith}
use lib.ListN.{length, take, replicate, length-append, length-replicate}
use lib.Seq.{take_at, take_all}
use Rattle.meaning.specs.Context.{Row, Statement, same, differ}
use Rattle.meaning.specs.Rules.{Pattern, variable, apply, Literal, equal, unequal}
use Rattle.meaning.specs.Columns.{pad, statement_of, pattern_of, literal_of, args_in}
use Rattle.meaning.specs.Text as M
use Rattle.meaning.specs.Text.{Read, faulty, taken, read, narrow, rows_of, patterns_of}
use Rattle.meaning.proofs.Lines.{Each}
use Rattle.meaning.proofs.Kept.{RowFits, PatternFits, Kept, nothing-kept, read_kept}
use Rattle.runs.specs.Runs as R
use Rattle.runs.specs.Runs.{context_of, clause_of, statements_of, literals_of}
use Rattle.runs.proofs.Growing.{rows_more, statements-more, patterns-more, literals-more}
use Rattle.text_runs.specs.Numbers.{row_numbers, said_numbers, pattern_numbers, literal_numbers, numbers_of}
use Rattle.text_runs.specs.Reads.{read_of, Holds, Reads}
use Rattle.text_runs.specs.declared.Told.{Told}

pub numbers-snoc : {A : Type 0} (numbers : A → List ℕ) (l : List A) (x : A) → numbers_of numbers (l ++ (x ∷ [])) ≡ numbers_of numbers l ++ numbers x
unfolding numbers_of
numbers-snoc numbers [] x = append-nil (numbers x)
numbers-snoc numbers (a ∷ l) x = rw (numbers-snoc numbers l x, append_assoc)

-- a run of pieces says the pieces, where one piece more is said as one more
module _ {A : Type 0} (numbers : A → List ℕ) (size : ℕ) (say : List ℕ → List A) (P : A → Type 0)
    (more : (x : A) (w : List ℕ) (n : ℕ) → P x → length w ≡ n * size → say (w ++ numbers x) ≡ say w ++ (x ∷ []))
    (sized : (x : A) → P x → length (numbers x) ≡ size) where
  after : (done todo : List A) (n : ℕ) → length (numbers_of numbers done) ≡ n * size → say (numbers_of numbers done) ≡ done → Each P todo
      → say (numbers_of numbers (done ++ todo)) ≡ done ++ todo
  after done [] n e h p = rw append-nil h
  after done (x ∷ todo) n e h p =
      let i : done ++ (x ∷ todo) ≡ (done ++ (x ∷ [])) ++ todo = sym (append_assoc done (x ∷ []) todo) in
      let l : length (numbers_of numbers (done ++ (x ∷ []))) ≡ (n + 1) * size =
      rw (numbers-snoc numbers done x, add-one n, suc-mul n size) (omega (arith, length-append (numbers_of numbers done) (numbers x), sized x p.0)) in
      let s : say (numbers_of numbers (done ++ (x ∷ []))) ≡ done ++ (x ∷ []) =
      rw (numbers-snoc numbers done x) (more x (numbers_of numbers done) n p.0 e ∙ ap (λ (d : List A). d ++ (x ∷ [])) h) in
      rw i (after (done ++ (x ∷ [])) todo (n + 1) l s p.1)

  says_all : say [] ≡ [] → (l : List A) → Each P l → say (numbers_of numbers l) ≡ l
  unfolding numbers_of
  says_all e l p = after [] l 0 (sym (zero-mul size)) e p

-- what is filled of a run
pub filled-part : {A : Type 0} {numbers : A → List ℕ} {places : ℕ} {l : List A} {run : List ℕ} {n : ℕ} → Holds numbers places l run n → take n run ≡ numbers_of numbers l
unfolding pad
filled-part {A} {numbers} {places} {l} {run} {n} h =
    rw h.run_is (take_at (numbers_of numbers l) (replicate (places - length (numbers_of numbers l)) 0) n (sym h.filled_is))

pad-length : (l : List ℕ) → length l ≤ 4 → length (pad 4 l) ≡ 4
unfolding pad
pad-length l h = simp (length-append, length-replicate) (omega arith)

pad-args : (l : List ℕ) → length l ≤ 4 → take (length l) (take 4 (pad 4 l)) ≡ l
unfolding pad
pad-args l h =
    rw (take_all 4 (l ++ replicate (4 - length l) 0) (let e = pad-length l h in omega arith)) (take_at l (replicate (4 - length l) 0) (length l) refl)

-- ---- one row, statement, pattern row or literal more
row_more : (r : Row) (w : List ℕ) (n : ℕ) → RowFits narrow r → length w ≡ n * 6 → R.rows_of (w ++ row_numbers r) ≡ R.rows_of w ++ (r ∷ [])
row_more r w n f e =
    rows_more w (row_numbers r) n e (omega (arith, pad-length r.args f.0))
    ∙ ap (λ (a : List ℕ). R.rows_of w ++ (record { symbol = r.symbol; args = a } ∷ [])) (pad-args r.args f.0)

said_more : (s : Statement) (w : List ℕ) (n : ℕ) → length w ≡ n * 3 → statements_of (w ++ said_numbers s) ≡ statements_of w ++ (s ∷ [])
unfolding statement_of
said_more (same p q) w n e = statements-more w (said_numbers (same p q)) n e refl
said_more (differ p q) w n e = statements-more w (said_numbers (differ p q)) n e refl

few-args : (p : Pattern) → PatternFits narrow p → length (args_in p) ≤ 4
few-args (variable v) f = omega arith
few-args (apply g l) f = f.0

pattern-length : (p : Pattern) → PatternFits narrow p → length (pattern_numbers p) ≡ 7
pattern-length p f = omega (arith, pad-length (args_in p) (few-args p f))

pattern-more : (p : Pattern) (w : List ℕ) (n : ℕ) → PatternFits narrow p → length w ≡ n * 7 → R.patterns_of (w ++ pattern_numbers p) ≡ R.patterns_of w ++ (p ∷ [])
unfolding pattern_of
pattern-more (variable v) w n f e = patterns-more w (pattern_numbers (variable v)) n e (pattern-length (variable v) f)
pattern-more (apply g l) w n f e =
    patterns-more w (pattern_numbers (apply g l)) n e (pattern-length (apply g l) f)
    ∙ ap (λ (a : List ℕ). R.patterns_of w ++ (apply g a ∷ [])) (pad-args l f.0)

literal-more : (l : Literal) (w : List ℕ) (n : ℕ) → length w ≡ n * 3 → literals_of (w ++ literal_numbers l) ≡ literals_of w ++ (l ∷ [])
unfolding literal_of
literal-more (equal p q) w n e = literals-more w (literal_numbers (equal p q)) n e refl
literal-more (unequal p q) w n e = literals-more w (literal_numbers (unequal p q)) n e refl

any : {A : Type 0} (l : List A) → Each (λ x. Unit {0}) l
any [] = tt
any (a ∷ l) = (tt, any l)

-- ---- what is told says what was read
kept : (r : M.Reading) → ((s : Read) → r ≡ taken s → Kept narrow s) → Kept narrow (read_of r)
kept (faulty f) h = nothing-kept narrow
kept (taken s) h = h s refl

pub told-kept : (text : List ℕ) → Kept narrow (read_of (read narrow text))
told-kept text = kept (read narrow text) (λ s e. read_kept narrow text s e)

module _ (text : List ℕ) (r : Told) (h : Reads text r) where
  pub says-context : context_of (take r.filled.rows r.rows) (take r.filled.said r.said) ≡ (read_of (read narrow text)).ledger.context
  unfolding R.rows_of statements_of R.each
  says-context =
      let a = says_all row_numbers 6 R.rows_of (RowFits narrow) row_more (λ x f. omega (arith, pad-length x.args f.0)) refl
      (rows_of (read_of (read narrow text))) (told-kept text).context_fits.rows_fit in
      let b = says_all said_numbers 3 statements_of (λ x. Unit {0}) (λ x w n p e. said_more x w n e) (λ x p. refl) refl
      (read_of (read narrow text)).ledger.context.statements (any (read_of (read narrow text)).ledger.context.statements) in
      ap₂ (λ (x y : List ℕ). context_of x y) (filled-part h.rows) (filled-part h.said)
      ∙ ap₂ (λ (x : List Row) (y : List Statement). record { rows = x; statements = y }) a b

  pub says-clause : clause_of (take r.filled.patterns r.patterns) (take r.filled.literals r.literals) ≡ (read_of (read narrow text)).clause
  unfolding R.patterns_of literals_of R.each
  says-clause =
      let a = says_all pattern_numbers 7 R.patterns_of (PatternFits narrow) pattern-more pattern-length refl
      (patterns_of (read_of (read narrow text))) (told-kept text).clause_fits.patterns_fit in
      let b = says_all literal_numbers 3 literals_of (λ x. Unit {0}) (λ x w n p e. literal-more x w n e) (λ x p. refl) refl
      (read_of (read narrow text)).clause.literals (any (read_of (read narrow text)).clause.literals) in
      ap₂ (λ (x y : List ℕ). clause_of x y) (filled-part h.patterns) (filled-part h.literals)
      ∙ ap₂ (λ (x : List Pattern) (y : List Literal). record { patterns = x; literals = y }) a b
