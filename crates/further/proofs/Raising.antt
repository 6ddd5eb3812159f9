-- Marks that become 1, by what is marked: one class, the arguments of a row, of all rows, and the sides of the differences.
--     raised-then     one marking after another
--     mine            what the functions of `busy` leave to show
-- Assumes nothing.
use mathlib.Core.Bool.{Bool, true, false, not, ◌&&◌, ◌||◌}
use mathlib.Core.List.{List, [], ◌∷◌, ◌++◌}
use mathlib.Core.Path.{◌≡◌, refl, ap, ap₂, sym, ◌∙◌, subst}
use Prim.Native.Nat.{ℕ, suc, ◌+◌, ◌*◌, ◌≤◌, ◌<◌}
use native.Mathlib.Numerals.{add-one}
use native.Mathlib.Omega.{arith}
use lib.Dec.{eqb}
use lib.ListN.{length, get_or, set, take, drop, replicate, length-set, length-drop, length-replicate, get_or-replicate, get_or-eq_default}
use lib.Seq.{take-suc, get_or-drop, get_or-set_same, get_or-set_other}
use borrow.Author.Rules.{rules}
use borrow.Author.Tests.{eqb-true, eqb-false, ne_eqb}
use Rattle.meaning.specs.Context.{Row, differences_of}
use Rattle.meaning.specs.Equality.{rep_at}
use Rattle.meaning.specs.Columns.{rows_from, row_from, statements_from, context_from}
use Rattle.meaning.specs.Following.{follows_by, among_by, argument_by, side_by, occurs_by}
use Rattle.columns.specs.Fit.{FitContext}
use Rattle.closing.specs.Steps.{Laid, Seated}
use Rattle.closing.proofs.Pairs.{pair_at, kept, pairs_from, is_difference, differences-are}
use Rattle.further.specs.Marks.{busy_by, raise, MarksOf, Raised, Argued, sides_at}

-- ---- one marking after another

raise-or : (a b : Bool) (v : ℕ) → raise (a || b) v ≡ raise b (raise a v)
unfolding raise
raise-or true true v = refl
raise-or true false v = refl
raise-or false b v = refl

raised-none : (f : ℕ → Bool) (m : List ℕ) → ((k : ℕ) → f k ≡ false) → Raised f m m
unfolding raise
raised-none f m e = record { long = refl; each = λ k h. rw (e k) }

pub raised-then : {f g : ℕ → Bool} {l m o : List ℕ} → Raised f l m → Raised g m o → (h : ℕ → Bool) → ((k : ℕ) → h k ≡ (f k || g k)) → Raised h l o
raised-then {f} {g} {l} {m} {o} p q h e =
    record { long = q.long ∙ p.long; each = λ k s. q.each k s ∙ ap (raise (g k)) (p.each k s) ∙ sym (raise-or (f k) (g k) (get_or l k 0)) ∙ ap (λ (b : Bool). raise b (get_or l k 0)) (sym (e k)) }

-- ---- one class

pub mark-one : (marks : List ℕ) (a n : ℕ) → n ≡ 255 → length marks ≡ 255 → a < n → Raised (eqb a) marks (set marks a 1)
unfolding raise
mark-one marks a n whole long h = record { long = length-set marks a 1; each = λ k s. go k (eqb a k) refl }
  where
    go : (k : ℕ) (b : Bool) → eqb a k ≡ b → get_or (set marks a 1) k 0 ≡ raise (eqb a k) (get_or marks k 0)
    go k true e = rw (e, ← eqb-true a k e) (get_or-set_same marks a 1 0 (omega arith))
    go k false e = rw e (get_or-set_other marks a k 1 0 (λ q. eqb-false a k e (sym q)))

pub mark-past : (marks : List ℕ) (a n : ℕ) → n ≡ 255 → n ≤ a → Raised (eqb a) marks marks
unfolding raise
mark-past marks a n whole h = record { long = refl; each = λ k s. rw (ne_eqb a k (λ e. omega arith)) }

-- past the end nothing is marked
pub marked-past : (marks : List ℕ) (a : ℕ) → length marks ≤ a → false ≡ not (eqb (get_or marks a 0) 0)
marked-past marks a h = rw (get_or-eq_default marks 0 h) refl

-- ---- one more at the end of a list

or-false : (b : Bool) → (b || false) ≡ b
or-false true = refl
or-false false = refl

or_assoc : (p q r : Bool) → (p || (q || r)) ≡ ((p || q) || r)
or_assoc true q r = refl
or_assoc false q r = refl

module _ (rep : ℕ → ℕ) (a : ℕ) where
  among-snoc : (l : List ℕ) (x : ℕ) → among_by rep (l ++ (x ∷ [])) a ≡ (among_by rep l a || eqb (rep x) a)
  unfolding among_by
  among-snoc [] x = or-false (eqb (rep x) a)
  among-snoc (y ∷ l) x = ap (eqb (rep y) a ||◌) (among-snoc l x) ∙ or_assoc (eqb (rep y) a) (among_by rep l a) (eqb (rep x) a)

  argument-snoc : (l : List Row) (r : Row) → argument_by rep (l ++ (r ∷ [])) a ≡ (argument_by rep l a || among_by rep r.args a)
  unfolding argument_by
  argument-snoc [] r = or-false (among_by rep r.args a)
  argument-snoc (s ∷ l) r = ap (among_by rep s.args a ||◌) (argument-snoc l r) ∙ or_assoc (among_by rep s.args a) (argument_by rep l a) (among_by rep r.args a)

  side-append : (l m : List (ℕ × ℕ)) → side_by rep (l ++ m) a ≡ (side_by rep l a || side_by rep m a)
  unfolding side_by
  side-append [] m = refl
  side-append (d ∷ l) m =
      ap ((eqb (rep d.0) a || eqb (rep d.1) a) ||◌) (side-append l m)
      ∙ or_assoc (eqb (rep d.0) a || eqb (rep d.1) a) (side_by rep l a) (side_by rep m a)

-- ---- the arguments of a row: the first k are marked

pub record Arguing (args t : List ℕ) (i count : ℕ) (m₀ m : List ℕ) (k : ℕ) : Type 0 where
  pub asks : Seated args i count
  pub so : Raised (among_by (rep_at t) (take k (drop (i * 4) args))) m₀ m
  pub reach : k ≤ count

pub arguing-start : (args t : List ℕ) (i count : ℕ) (m : List ℕ) → Seated args i count → Arguing args t i count m m 0
unfolding among_by
arguing-start args t i count m asks = record { asks = asks; so = raised-none _ m (λ k. refl); reach = omega arith }

pub arguing-next : {args t : List ℕ} {i count : ℕ} {m₀ m m' : List ℕ} {k a b : ℕ} → Arguing args t i count m₀ m k → k < count → a ≡ rep_at t (get_or args (i * 4 + k) 0) → b ≡ a
    → Raised (eqb b) m m' → Arguing args t i count m₀ m' (k + 1)
arguing-next {args} {t} {i} {count} {m₀} {m} {m'} {k} {a} {b} g h ea eb r =
    record { asks = g.asks; so = raised-then g.so r _ one; reach = omega arith }
  where
    inside : k < length (drop (i * 4) args)
    inside = omega (arith, length-drop (i * 4) args, g.asks.long, g.asks.four)

    last : b ≡ rep_at t (get_or (drop (i * 4) args) k 0)
    last = eb ∙ ea ∙ ap (rep_at t) (sym (get_or-drop (i * 4) args k 0))

    one : (c : ℕ) → among_by (rep_at t) (take (k + 1) (drop (i * 4) args)) c ≡ (among_by (rep_at t) (take k (drop (i * 4) args)) c || eqb b c)
    one c =
        rw (add-one, take-suc (drop (i * 4) args) k 0 inside)
        (among-snoc (rep_at t) c (take k (drop (i * 4) args)) (get_or (drop (i * 4) args) k 0) ∙ ap (λ (x : ℕ). among_by (rep_at t) (take k (drop (i * 4) args)) c || eqb x c) (sym last))

pub arguing-done : {args t : List ℕ} {i count : ℕ} {m₀ m : List ℕ} {k : ℕ} → Arguing args t i count m₀ m k → count ≤ k
    → Raised (among_by (rep_at t) (take count (drop (i * 4) args))) m₀ m
arguing-done {args} {t} {i} {count} {m₀} {m} {k} g h =
    let e : k ≡ count = omega (arith, g.reach) in
    subst (λ (j : ℕ). Raised (among_by (rep_at t) (take j (drop (i * 4) args))) m₀ m) e g.so

-- ---- the rows: those of the first i are marked

pub record Rowing (counts args : List ℕ) (n : ℕ) (t m₀ m : List ℕ) (i : ℕ) : Type 0 where
  pub asks : Laid counts args n
  pub so : Argued counts args i t m₀ m
  pub reach : i ≤ n

pub rowing_start : (counts args : List ℕ) (n : ℕ) (t m : List ℕ) → Laid counts args n → Rowing counts args n t m m 0
unfolding argument_by rows_from
rowing_start counts args n t m asks = record { asks = asks; so = record { so = λ symbols. raised-none _ m (λ k. refl) }; reach = omega arith }

pub rowing-seated : {counts args : List ℕ} {n : ℕ} {t m₀ m : List ℕ} {i c : ℕ} → Rowing counts args n t m₀ m i → i < n → c ≡ get_or counts i 0 → Seated args i c
rowing-seated {counts} {args} {n} {t} {m₀} {m} {i} {c} g h e =
    record { inside = omega (arith, g.asks.room); long = omega (arith, g.asks.long); four = omega (arith, g.asks.few i h) }

pub rowing-next : {counts args : List ℕ} {n : ℕ} {t m₀ m m' : List ℕ} {i c : ℕ} → Rowing counts args n t m₀ m i → i < n → c ≡ get_or counts i 0
    → Raised (among_by (rep_at t) (take c (drop (i * 4) args))) m m' → Rowing counts args n t m₀ m' (i + 1)
unfolding rows_from
rowing-next {counts} {args} {n} {t} {m₀} {m} {m'} {i} {c} g h e r =
    record { asks = g.asks; so = record { so = λ symbols. raised-then (g.so.so symbols) r _ (one symbols) }; reach = omega arith }
  where
    one : (symbols : List ℕ) (a : ℕ) → argument_by (rep_at t) (rows_from symbols counts args (i + 1)) a
        ≡ (argument_by (rep_at t) (rows_from symbols counts args i) a || among_by (rep_at t) (take c (drop (i * 4) args)) a)
    one symbols a = rw (add-one, e) (argument-snoc (rep_at t) a (rows_from symbols counts args i) (row_from symbols counts args i))

pub rowing-done : {counts args : List ℕ} {n : ℕ} {t m₀ m : List ℕ} {i : ℕ} → Rowing counts args n t m₀ m i → n ≤ i → Argued counts args n t m₀ m
rowing-done {counts} {args} {n} {t} {m₀} {m} {i} g h = let e : i ≡ n = omega (arith, g.reach) in subst (λ (j : ℕ). Argued counts args j t m₀ m) e g.so

-- ---- one statement

module _ (kinds lefts rights t m : List ℕ) (k : ℕ) (s : Bool) (es : s ≡ eqb (get_or kinds k 0) 2) where
  pub statement-equation : s ≡ true → Raised (sides_at kinds lefts rights t k) m m
  unfolding sides_at
  statement-equation e = raised-none _ m (λ a. rw (sym es ∙ e))

  pub statement-difference : (l r l' r' a a' b b' : ℕ) (m₁ m₂ : List ℕ) → s ≡ false
      → l ≡ get_or lefts k 0 → a ≡ rep_at t l → a' ≡ a → r ≡ get_or rights k 0 → b ≡ rep_at t r → b' ≡ b
      → Raised (eqb a') m m₁ → Raised (eqb b') m₁ m₂ → Raised (sides_at kinds lefts rights t k) m m₂
  unfolding sides_at
  statement-difference l r l' r' a a' b b' m₁ m₂ d el ea ea' er eb eb' p q =
      raised-then p q _
      (λ c. rw (sym es ∙ d) (ap₂ (λ (x y : ℕ). eqb x c || eqb y c) (sym (ea' ∙ ea ∙ ap (rep_at t) el)) (sym (eb' ∙ eb ∙ ap (rep_at t) er))))

-- ---- the statements: the sides of the first k are marked

pub record Siding (kinds lefts rights : List ℕ) (n : ℕ) (t m₀ m : List ℕ) (k : ℕ) : Type 0 where
  pub few : n ≤ 510
  pub so : Raised (side_by (rep_at t) (differences_of (statements_from kinds lefts rights k))) m₀ m
  pub reach : k ≤ n

pub siding-start : (kinds lefts rights : List ℕ) (n : ℕ) (t m : List ℕ) → n ≤ 510 → Siding kinds lefts rights n t m m 0
unfolding side_by statements_from differences_of
siding-start kinds lefts rights n t m few = record { few = few; so = raised-none _ m (λ k. refl); reach = omega arith }

pub siding-next : {kinds lefts rights : List ℕ} {n : ℕ} {t m₀ m m' : List ℕ} {k : ℕ} → Siding kinds lefts rights n t m₀ m k → k < n
    → Raised (sides_at kinds lefts rights t k) m m' → Siding kinds lefts rights n t m₀ m' (k + 1)
unfolding pairs_from side_by sides_at
siding-next {kinds} {lefts} {rights} {n} {t} {m₀} {m} {m'} {k} g h r =
    record { few = g.few; so = raised-then g.so r _ one; reach = omega arith }
  where
    ds : ℕ → List (ℕ × ℕ)
    ds j = pairs_from (is_difference kinds) lefts rights j

    new : (a : ℕ) (b : Bool) → side_by (rep_at t) (kept b (pair_at lefts rights k)) a ≡ (b && (eqb (rep_at t (get_or lefts k 0)) a || eqb (rep_at t (get_or rights k 0)) a))
    new a true = or-false (eqb (rep_at t (get_or lefts k 0)) a || eqb (rep_at t (get_or rights k 0)) a)
    new a false = refl

    one : (a : ℕ) → side_by (rep_at t) (differences_of (statements_from kinds lefts rights (k + 1))) a
        ≡ (side_by (rep_at t) (differences_of (statements_from kinds lefts rights k)) a || sides_at kinds lefts rights t k a)
    one a =
        rw (add-one, differences-are kinds lefts rights (suc k), differences-are kinds lefts rights k)
        (side-append (rep_at t) a (ds k) (kept (is_difference kinds k) (pair_at lefts rights k)) ∙ ap (side_by (rep_at t) (ds k) a ||◌) (new a (is_difference kinds k)))

pub siding-done : {kinds lefts rights : List ℕ} {n : ℕ} {t m₀ m : List ℕ} {k : ℕ} → Siding kinds lefts rights n t m₀ m k → n ≤ k
    → Raised (side_by (rep_at t) (differences_of (statements_from kinds lefts rights n))) m₀ m
siding-done {kinds} {lefts} {rights} {n} {t} {m₀} {m} {k} g h =
    let e : k ≡ n = omega (arith, g.reach) in
    subst (λ (j : ℕ). Raised (side_by (rep_at t) (differences_of (statements_from kinds lefts rights j))) m₀ m) e g.so

-- ---- the whole

module _ (symbols counts args : List ℕ) (n : ℕ) (kinds lefts rights : List ℕ) (m : ℕ) (t : List ℕ) where
  abbrev Right : List ℕ → Type 0
  Right = MarksOf symbols counts args n kinds lefts rights m t

  pub marks-unfit : (FitContext symbols counts args n kinds lefts rights m → ⊥) → (u : List ℕ) → u ≡ replicate 255 1 → Right u
  marks-unfit f u e = record { fit = λ w. absurd (f w); unfit = λ _. e }

  module _ (f : FitContext symbols counts args n kinds lefts rights m) (b : Bool)
      (eb : b ≡ follows_by (rep_at t) (differences_of (statements_from kinds lefts rights m))) where
    pub marks-clash : b ≡ true → (u : List ℕ) → u ≡ replicate 255 1 → Right u
    unfolding context_from raise busy_by
    marks-clash e u eu =
        record {
          fit = λ w. record {
            long = rw eu (length-replicate {A = ℕ} 255 1);
            each = λ k h. rw (eu, ← eb, e) (get_or-replicate 255 k 1 0 h);
          };
          unfit = λ w. absurd (w f);
        }

    pub marks-all : b ≡ false → (z u v : List ℕ) → z ≡ replicate 255 0 → Argued counts args n t z u
        → Raised (side_by (rep_at t) (differences_of (statements_from kinds lefts rights m))) u v → Right v
    unfolding context_from busy_by occurs_by
    marks-all e z u v ez p q =
        record {
          fit = λ w. record { long = both.long ∙ rw ez (length-replicate {A = ℕ} 255 0); each = λ k h. rw (← eb, e) (both.each k h ∙ ap (raise _) (rw ez (get_or-replicate 255 k 0 0 h))) };
          unfit = λ w. absurd (w f);
        }
      where
        both : Raised (occurs_by (rep_at t) (rows_from symbols counts args n) (differences_of (statements_from kinds lefts rights m))) z v
        both = raised-then (p.so symbols) q _ (λ k. refl)

pub ruleset mine = (
  rules,
  mark-one,
  mark-past,
  marked-past,
  arguing-start,
  arguing-next,
  arguing-done,
  rowing_start,
  rowing-seated,
  rowing-next,
  rowing-done,
  statement-equation,
  statement-difference,
  siding-start,
  siding-next,
  siding-done,
  marks-unfit,
  marks-clash,
  marks-all,
)
