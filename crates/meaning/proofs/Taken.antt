-- A text that is taken gives a context and a clause that are well formed.
--     read-formed           the context is fit, and the clause names rows that there are
--     equations-append ..   the equations, and the differences, of two lists of statements in a row
-- Assumes nothing.
use mathlib.Core.Bool.{true}
use mathlib.Core.List.{List, [], ◌∷◌, ◌++◌, append-nil}
use mathlib.Core.Path.{◌≡◌, refl, ap, subst}
use Prim.Native.Nat.{ℕ, suc, ◌+◌, ◌≤◌, ◌<◌}
use native.Mathlib.Omega.{arith}
use lib.Dec.{ltb}
use borrow.Author.Tests.{ltb-true}
use lib.ListN.{length}
use Rattle.meaning.specs.Context.{equations, Statement, equations_of, same, differ, differences, differences_of, Row, row₀}
use Rattle.meaning.specs.Rules.{Below, Pattern, Literal, variable, apply, equal, unequal}
use Rattle.meaning.specs.Text.{refers, Entry, Read, table_of, named_by, no_row, row, put, rows_of, put_context, put_clause, statement, pattern, patterns_of, literal, read, Limits, taken}
use Rattle.meaning.specs.Formed.{Ordered, Within, AllPlaced, Placed, NamesAll, Names, Formed}
use Rattle.meaning.proofs.Lists.{snoc-at, length-snoc}
use Rattle.meaning.proofs.Lines.{Each, nowhere-each, read_keeps, entry_in}

-- ---- one statement more
pub equations-append : (l m : List Statement) → equations_of (l ++ m) ≡ equations_of l ++ equations_of m
unfolding equations_of
equations-append [] m = refl
equations-append (same p q ∷ l) m = ap (λ x. (p, q) ∷ x) (equations-append l m)
equations-append (differ p q ∷ l) m = equations-append l m

pub differences-append : (l m : List Statement) → differences_of (l ++ m) ≡ differences_of l ++ differences_of m
unfolding differences_of
differences-append [] m = refl
differences-append (same p q ∷ l) m = differences-append l m
differences-append (differ p q ∷ l) m = ap (λ x. (p, q) ∷ x) (differences-append l m)

-- ---- well formed
each_below : (n : ℕ) (l : List ℕ) → Each (λ a. ltb a n ≡ true) l → Below n l
each_below n [] h = tt
each_below n (a ∷ l) h = (ltb-true a n h.0, each_below n l h.1)

refers-below : (e : Entry) (s : Read) → refers e s ≡ true → Below (table_of e s) (named_by e)
unfolding refers no_row
refers-below e s h = each_below (table_of e s) (named_by e) (nowhere-each (λ r. ltb r (table_of e s)) 0 (named_by e) h)

ordered-more : (rows : List Row) (r : Row) → Ordered rows → Below (length rows) r.args → Ordered (rows ++ (r ∷ []))
ordered-more rows r o b i h = snoc-at rows r row₀ i (λ j x. Below j x.args) h (o i) b

within_wider : (n m : ℕ) (ps : List (ℕ × ℕ)) → n ≤ m → Within n ps → Within m ps
within_wider n m ps h w k l = (omega (arith, (w k l).0), omega (arith, (w k l).1))

within_more : (n : ℕ) (ps : List (ℕ × ℕ)) (p : ℕ × ℕ) → Within n ps → (p.0 < n) × (p.1 < n) → Within n (ps ++ (p ∷ []))
within_more n ps p w b k l = snoc-at ps p (0, 0) k (λ _ x. (x.0 < n) × (x.1 < n)) l (w k) b

placed-more : (i : ℕ) (ps : List Pattern) (p : Pattern) → AllPlaced i ps → Placed (i + length ps) p → AllPlaced i (ps ++ (p ∷ []))
placed-more i [] p a b = let e : i + 0 ≡ i = omega arith in (subst (λ (n : ℕ). Placed n p) e b, tt)
placed-more i (q ∷ ps) p a b =
    let e : i + suc (length ps) ≡ suc i + length ps = omega arith in
    (a.0, placed-more (suc i) ps p a.1 (subst (λ (n : ℕ). Placed n p) e b))

names-wider : (n m : ℕ) (ls : List Literal) → n ≤ m → NamesAll n ls → NamesAll m ls
names-wider n m [] h a = tt
names-wider n m (l ∷ ls) h a = ((omega (arith, a.0.0), omega (arith, a.0.1)), names-wider n m ls h a.1)

names_more : (n : ℕ) (ls : List Literal) (l : Literal) → NamesAll n ls → Names n l → NamesAll n (ls ++ (l ∷ []))
names_more n [] l a b = (b, tt)
names_more n (m ∷ ls) l a b = (a.0, names_more n ls l a.1 b)

abbrev Sound : Read → Type 0
Sound s = Formed s.ledger.context s.clause

put-row : (r : Row) (s : Read) → Below (length (rows_of s)) r.args → Sound s → Sound (put (row r) s)
unfolding put put_context put_clause
put-row r s b f =
    let h : length (rows_of s) ≤ length (rows_of s ++ (r ∷ [])) = omega (arith, length-snoc (rows_of s) r) in
    record {
      fit =
          record {
            ordered = ordered-more (rows_of s) r f.fit.ordered b;
            within = within_wider _ _ (equations s.ledger.context) h f.fit.within;
            apart = within_wider _ _ (differences s.ledger.context) h f.fit.apart;
          };
      placed = f.placed;
      named = f.named;
    }

put-statement : (l : Statement) (s : Read) → Below (length (rows_of s)) (named_by (statement l)) → Sound s → Sound (put (statement l) s)
unfolding put put_context put_clause named_by equations_of differences_of
put-statement (same p q) s b f =
    let st : List Statement = s.ledger.context.statements in
    let e : _ = equations-append st (same p q ∷ []) in
    let d : _ = differences-append st (same p q ∷ []) in
    record {
      fit =
          record {
            ordered = f.fit.ordered;
            within = rw e (within_more (length (rows_of s)) (equations_of st) (p, q) f.fit.within (b.0, b.1.0));
            apart = rw d (rw append-nil f.fit.apart);
          };
      placed = f.placed;
      named = f.named;
    }
put-statement (differ p q) s b f =
    let st : List Statement = s.ledger.context.statements in
    let e : _ = equations-append st (differ p q ∷ []) in
    let d : _ = differences-append st (differ p q ∷ []) in
    record {
      fit =
          record {
            ordered = f.fit.ordered;
            within = rw e (rw append-nil f.fit.within);
            apart = rw d (within_more (length (rows_of s)) (differences_of st) (p, q) f.fit.apart (b.0, b.1.0));
          };
      placed = f.placed;
      named = f.named;
    }

put-pattern : (p : Pattern) (s : Read) → Placed (length (patterns_of s)) p → Sound s → Sound (put (pattern p) s)
unfolding put put_context put_clause
put-pattern p s b f =
    let h : length (patterns_of s) ≤ length (patterns_of s ++ (p ∷ [])) = omega (arith, length-snoc (patterns_of s) p) in
    let z : length (patterns_of s) ≡ 0 + length (patterns_of s) = omega arith in
    record {
      fit = f.fit;
      placed = placed-more 0 (patterns_of s) p f.placed (subst (λ (n : ℕ). Placed n p) z b);
      named = names-wider _ _ s.clause.literals h f.named;
    }

put-literal : (l : Literal) (s : Read) → Names (length (patterns_of s)) l → Sound s → Sound (put (literal l) s)
unfolding put put_context put_clause
put-literal l s b f =
    record { fit = f.fit; placed = f.placed; named = names_more (length (patterns_of s)) s.clause.literals l f.named b }

put-sound : (e : Entry) (s : Read) → Below (table_of e s) (named_by e) → Sound s → Sound (put e s)
unfolding table_of named_by
put-sound (row r) s b f = put-row r s b f
put-sound (statement l) s b f = put-statement l s b f
put-sound (pattern (variable v)) s b f = put-pattern (variable v) s tt f
put-sound (pattern (apply g l)) s b f = put-pattern (apply g l) s b f
put-sound (literal (equal p q)) s b f = put-literal (equal p q) s (b.0, b.1.0) f
put-sound (literal (unequal p q)) s b f = put-literal (unequal p q) s (b.0, b.1.0) f

pub read-formed : (L : Limits) (text : List ℕ) (s : Read) → read L text ≡ taken s → Formed s.ledger.context s.clause
unfolding equations_of differences_of
read-formed L text s e =
    read_keeps L Sound (λ line t p f. put-sound (entry_in line) t (refers-below (entry_in line) t p.referring) f) text s e
    record {
      fit = record { ordered = λ i h. absurd (omega arith); within = λ i h. absurd (omega arith); apart = λ i h. absurd (omega arith) };
      placed = tt;
      named = tt;
    }
