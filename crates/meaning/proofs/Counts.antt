-- The counts of symbols: in whatever a text is taken as, two uses of a symbol, in either table, have one count.
--     Counted              a symbol has one count wherever it stands
--     RowCounted ..        the same of a row's symbol and of a pattern's
--     Agreed, read-agreed  every symbol of both tables is so
-- Assumes nothing.
use mathlib.Core.Bool.{Bool, true, not, ◌&&◌, ◌||◌}
use mathlib.Core.List.{List, [], ◌∷◌, ◌++◌}
use mathlib.Core.Path.{◌≡◌, refl, sym}
use Prim.Native.Nat.{ℕ}
use lib.Dec.{eqb}
use borrow.Author.Tests.{eqb-true, eq-eqb}
use lib.ListN.{length}
use Rattle.meaning.specs.Context.{Row, same, differ}
use Rattle.meaning.specs.Rules.{Pattern, variable, apply}
use Rattle.meaning.specs.Text.{row, rows_agree, pattern, patterns_agree, Read, rows_of, patterns_of, put, Entry, agrees, put_context, put_clause, statement, literal, read, Limits, taken}
use Rattle.meaning.proofs.Logic.{and-true-left, and-true-right}
use Rattle.meaning.proofs.Lines.{Each, each_snoc, each_both, each_map, read_keeps, entry_in}

abbrev pub RowSays : ℕ → ℕ → Row → Type 0
RowSays f n r = r.symbol ≡ f → length r.args ≡ n

abbrev pub PatternSays : ℕ → ℕ → Pattern → Type 0
PatternSays f n (variable v) = Unit {0}
PatternSays f n (apply g l) = g ≡ f → length l ≡ n

-- the symbol f has the count n wherever it stands
pub record Counted (rs : List Row) (ps : List Pattern) (f n : ℕ) : Type 0 where
  pub in_rows : Each (RowSays f n) rs
  pub in_patterns : Each (PatternSays f n) ps

abbrev pub RowCounted : List Row → List Pattern → Row → Type 0
RowCounted rs ps r = Counted rs ps r.symbol (length r.args)

abbrev pub PatternCounted : List Row → List Pattern → Pattern → Type 0
PatternCounted rs ps (variable v) = Unit {0}
PatternCounted rs ps (apply f l) = Counted rs ps f (length l)

pub record Agreed (rs : List Row) (ps : List Pattern) : Type 0 where
  pub of_rows : Each (RowCounted rs ps) rs
  pub of_patterns : Each (PatternCounted rs ps) ps

says-true : (g f m n : ℕ) → (not (eqb g f) || eqb m n) ≡ true → g ≡ f → m ≡ n
says-true g f m n e q = eqb-true m n (rw (eq-eqb g f q) at e)

rows-say : (f n : ℕ) (rs : List Row) → rows_agree f n rs ≡ true → Each (RowSays f n) rs
unfolding rows_agree
rows-say f n [] e = tt
rows-say f n (r ∷ rs) e =
    let a : Bool = not (eqb r.symbol f) || eqb (length r.args) n in
    (says-true r.symbol f (length r.args) n (and-true-left a (rows_agree f n rs) e), rows-say f n rs (and-true-right a (rows_agree f n rs) e))

patterns-say : (f n : ℕ) (ps : List Pattern) → patterns_agree f n ps ≡ true → Each (PatternSays f n) ps
unfolding patterns_agree
patterns-say f n [] e = tt
patterns-say f n (variable v ∷ ps) e = (tt, patterns-say f n ps e)
patterns-say f n (apply g l ∷ ps) e =
    let a : Bool = not (eqb g f) || eqb (length l) n in
    (says-true g f (length l) n (and-true-left a (patterns_agree f n ps) e), patterns-say f n ps (and-true-right a (patterns_agree f n ps) e))

agree-counted : (f n : ℕ) (rs : List Row) (ps : List Pattern) → (rows_agree f n rs && patterns_agree f n ps) ≡ true → Counted rs ps f n
agree-counted f n rs ps e =
    record {
      in_rows = rows-say f n rs (and-true-left (rows_agree f n rs) (patterns_agree f n ps) e);
      in_patterns = patterns-say f n ps (and-true-right (rows_agree f n rs) (patterns_agree f n ps) e);
    }

row_more : (rs : List Row) (ps : List Pattern) (r : Row) (f n : ℕ) → Counted rs ps f n → RowSays f n r → Counted (rs ++ (r ∷ [])) ps f n
row_more rs ps r f n c h = record { in_rows = each_snoc (RowSays f n) rs r c.in_rows h; in_patterns = c.in_patterns }

pattern-more : (rs : List Row) (ps : List Pattern) (p : Pattern) (f n : ℕ) → Counted rs ps f n → PatternSays f n p → Counted rs (ps ++ (p ∷ [])) f n
pattern-more rs ps p f n c h = record { in_rows = c.in_rows; in_patterns = each_snoc (PatternSays f n) ps p c.in_patterns h }

-- a row more, whose symbol has its count everywhere so far
row-agreed : (rs : List Row) (ps : List Pattern) (r : Row) → Agreed rs ps → RowCounted rs ps r → Agreed (rs ++ (r ∷ [])) ps
row-agreed rs ps r a c =
    record {
      of_rows = each_snoc (RowCounted (rs ++ (r ∷ [])) ps) rs r
          (each_both (RowCounted rs ps) (RowSays f n) (RowCounted (rs ++ (r ∷ [])) ps) rs (λ q k h. row_more rs ps r q.symbol (length q.args) k (λ e. sym (h (sym e)))) a.of_rows c.in_rows)
          (row_more rs ps r f n c (λ e. refl));
      of_patterns = each_both (PatternCounted rs ps) (PatternSays f n) (PatternCounted (rs ++ (r ∷ [])) ps) ps turn a.of_patterns c.in_patterns;
    }
  where
    f : ℕ
    f = r.symbol

    n : ℕ
    n = length r.args

    turn : (p : Pattern) → PatternCounted rs ps p → PatternSays f n p → PatternCounted (rs ++ (r ∷ [])) ps p
    turn (variable v) k h = tt
    turn (apply g l) k h = row_more rs ps r g (length l) k (λ e. sym (h (sym e)))

pattern-agreed : (rs : List Row) (ps : List Pattern) (f : ℕ) (l : List ℕ) → Agreed rs ps → Counted rs ps f (length l) → Agreed rs (ps ++ (apply f l ∷ []))
pattern-agreed rs ps f l a c =
    record {
      of_rows = each_both (RowCounted rs ps) (RowSays f n) (RowCounted rs qs) rs (λ q k h. pattern-more rs ps p q.symbol (length q.args) k (λ e. sym (h (sym e)))) a.of_rows c.in_rows;
      of_patterns = each_snoc (PatternCounted rs qs) ps p (each_both (PatternCounted rs ps) (PatternSays f n) (PatternCounted rs qs) ps turn a.of_patterns c.in_patterns) (pattern-more rs ps p f n c (λ e. refl));
    }
  where
    n : ℕ
    n = length l

    p : Pattern
    p = apply f l

    qs : List Pattern
    qs = ps ++ (p ∷ [])

    turn : (x : Pattern) → PatternCounted rs ps x → PatternSays f n x → PatternCounted rs qs x
    turn (variable v) k h = tt
    turn (apply g m) k h = pattern-more rs ps p g (length m) k (λ e. sym (h (sym e)))

variable-agreed : (rs : List Row) (ps : List Pattern) (v : ℕ) → Agreed rs ps → Agreed rs (ps ++ (variable v ∷ []))
variable-agreed rs ps v a =
    record {
      of_rows = each_map (RowCounted rs ps) (RowCounted rs qs) rs (λ q k. pattern-more rs ps (variable v) q.symbol (length q.args) k tt) a.of_rows;
      of_patterns = each_snoc (PatternCounted rs qs) ps (variable v) (each_map (PatternCounted rs ps) (PatternCounted rs qs) ps turn a.of_patterns) tt;
    }
  where
    qs : List Pattern
    qs = ps ++ (variable v ∷ [])

    turn : (x : Pattern) → PatternCounted rs ps x → PatternCounted rs qs x
    turn (variable w) k = tt
    turn (apply g m) k = pattern-more rs ps (variable v) g (length m) k tt

abbrev ReadAgreed : Read → Type 0
ReadAgreed s = Agreed (rows_of s) (patterns_of s)

put-agreed : (e : Entry) (s : Read) → agrees e s ≡ true → ReadAgreed s → ReadAgreed (put e s)
unfolding agrees put put_context put_clause
put-agreed (row r) s h a = row-agreed (rows_of s) (patterns_of s) r a (agree-counted r.symbol (length r.args) (rows_of s) (patterns_of s) h)
put-agreed (statement (same p q)) s h a = a
put-agreed (statement (differ p q)) s h a = a
put-agreed (pattern (variable v)) s h a = variable-agreed (rows_of s) (patterns_of s) v a
put-agreed (pattern (apply f l)) s h a = pattern-agreed (rows_of s) (patterns_of s) f l a (agree-counted f (length l) (rows_of s) (patterns_of s) h)
put-agreed (literal l) s h a = a

pub read-agreed : (L : Limits) (text : List ℕ) (s : Read) → read L text ≡ taken s → Agreed (rows_of s) (patterns_of s)
read-agreed L text s e = read_keeps L ReadAgreed (λ line t p a. put-agreed (entry_in line) t p.agreeing a) text s e record { of_rows = tt; of_patterns = tt }
