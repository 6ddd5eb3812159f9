-- Stated pairs in a run: a statement is put after the pairs kept so far, and counts if it is kept.
--     pairs-length, pairs-at    what a run of pairs says, pair by pair
--     Pairing, pairing-..       the pairs of the statements passed
--     mine                      what the functions of `pairs` leave to show
-- Assumes nothing.
use mathlib.Core.Bool.{Bool, true, false, beq}
use mathlib.Core.List.{List, [], ◌∷◌, ◌++◌, append-nil}
use mathlib.Core.Path.{◌≡◌, refl, ap, ap₂, sym, ◌∙◌}
use mathlib.Core.Logic.{◌⊎◌, inl, inr}
use Prim.Native.Nat.{ℕ, suc, ◌+◌, ◌*◌, ◌/◌, ◌≤◌, ◌<◌}
use native.Mathlib.Numerals.{add-one}
use native.Mathlib.Omega.{arith}
use lib.Dec.{eqb}
use borrow.Author.Rules.{rules}
use borrow.Author.Tests.{both_ways}
use lib.ListN.{length, get_or, set, take, drop, length-append, length-set}
use lib.Seq.{get_or-take, get_or-drop, length-take-le, sets-eq}
use Rattle.meaning.specs.Context.{Statement, same, differ, equations_of, differences_of}
use Rattle.meaning.specs.Values.{number_at}
use Rattle.meaning.specs.Columns.{statement_of}
use Rattle.meaning.specs.Checking.{numbered}
use Rattle.runs.specs.Runs.{each, put, said_count, kind_in, left_in, right_in, statement_in, statements_of}
use Rattle.runs.proofs.Saying.{each-length, each_at_lem}
use Rattle.runs.proofs.Growing.{each-grown, put_front}
use Rattle.grounds_numbers.specs.Limits.{pair_size}
use Rattle.grounds_numbers.specs.Pairs.{pair_count, pair_in, pairs_in, numbers_of, kept_by, pairs_of, Held}

-- ---- a run of pairs

pub pairs-length : (run : List ℕ) → length (pairs_in run) ≡ pair_count run
unfolding pairs_in
pairs-length run = each-length (pair_in run) (pair_count run)

pub pairs-at : (run : List ℕ) (k : ℕ) → k < pair_count run → get_or (pairs_in run) k (0, 0) ≡ pair_in run k
unfolding pairs_in
pairs-at run k h = each_at_lem (pair_in run) (pair_count run) k (0, 0) h

pair-local : (l m : List ℕ) (i j : ℕ) → take pair_size (drop (i * pair_size) l) ≡ take pair_size (drop (j * pair_size) m) → pair_in l i ≡ pair_in m j
pair-local l m i j e =
    ap₂ (λ (x y : ℕ). (x, y)) (sym (first l i) ∙ ap (λ (p : List ℕ). get_or p 0 0) e ∙ first m j) (sym (second l i) ∙ ap (λ (p : List ℕ). get_or p 1 0) e ∙ second m j)
  where
    first : (r : List ℕ) (k : ℕ) → get_or (take pair_size (drop (k * pair_size) r)) 0 0 ≡ get_or r (k * pair_size) 0
    first r k =
        get_or-take pair_size (drop (k * pair_size) r) 0 0 (omega arith) ∙ get_or-drop (k * pair_size) r 0 0 ∙ ap (λ (z : ℕ). get_or r z 0) (omega arith)

    second : (r : List ℕ) (k : ℕ) → get_or (take pair_size (drop (k * pair_size) r)) 1 0 ≡ get_or r (k * pair_size + 1) 0
    second r k = get_or-take pair_size (drop (k * pair_size) r) 1 0 (omega arith) ∙ get_or-drop (k * pair_size) r 1 0

pairs-grown : (w : List ℕ) (n x y : ℕ) → length w ≡ n * pair_size → pairs_in (w ++ (x ∷ y ∷ [])) ≡ pairs_in w ++ ((x, y) ∷ [])
unfolding pairs_in
pairs-grown w n x y ew =
    let all : length (w ++ (x ∷ y ∷ [])) / pair_size ≡ suc n = omega (arith, length-append w (x ∷ y ∷ [])) in
    let old : length w / pair_size ≡ n = omega arith in
    rw (all, old) (each-grown pair_size pair_in pair-local w (x ∷ y ∷ []) n ew refl)

-- ---- a pair written

module _ (run : List ℕ) (k x y : ℕ) (room : k * pair_size + pair_size ≤ length run) where
  pair_put : set (set run (k * pair_size) x) (k * pair_size + 1) y ≡ put pair_size run k (x ∷ y ∷ [])
  pair_put = rw (add-one (k * pair_size)) (sets-eq (x ∷ y ∷ []) run (k * pair_size) room)

  put-long : length (put pair_size run k (x ∷ y ∷ [])) ≡ length run
  put-long = ap length (sym pair_put) ∙ length-set (set run (k * pair_size) x) (k * pair_size + 1) y ∙ length-set run (k * pair_size) x

  put-more : pairs_in (take ((k + 1) * pair_size) (put pair_size run k (x ∷ y ∷ []))) ≡ pairs_in (take (k * pair_size) run) ++ ((x, y) ∷ [])
  put-more =
      ap pairs_in (put_front pair_size run k (x ∷ y ∷ []) room refl)
      ∙ pairs-grown (take (k * pair_size) run) k x y (length-take-le (k * pair_size) run (omega arith))

-- ---- which statements are kept

pub kept-as : (d : Bool) (kind : ℕ) (b : Bool) → d ≡ eqb kind 2 → beq d b ≡ kept_by kind b
unfolding kept_by
kept-as true kind true e = e
kept-as false kind true e = e
kept-as true kind false e = rw (← e)
kept-as false kind false e = rw (← e)

equations-snoc : (l : List Statement) (s : Statement) → equations_of (l ++ (s ∷ [])) ≡ equations_of l ++ equations_of (s ∷ [])
unfolding equations_of
equations-snoc [] s = refl
equations-snoc (same p q ∷ l) s = ap (λ x. (p, q) ∷ x) (equations-snoc l s)
equations-snoc (differ p q ∷ l) s = equations-snoc l s

differences-snoc : (l : List Statement) (s : Statement) → differences_of (l ++ (s ∷ [])) ≡ differences_of l ++ differences_of (s ∷ [])
unfolding differences_of
differences-snoc [] s = refl
differences-snoc (same p q ∷ l) s = differences-snoc l s
differences-snoc (differ p q ∷ l) s = ap (λ x. (p, q) ∷ x) (differences-snoc l s)

-- one statement more: its pair, or nothing
abbrev OneMore : Bool → List Statement → ℕ → ℕ → ℕ → Type 0
OneMore b l kind p q =
    ((kept_by kind b ≡ true) × (pairs_of b (l ++ (statement_of kind p q ∷ [])) ≡ pairs_of b l ++ ((p, q) ∷ [])))
    ⊎ ((kept_by kind b ≡ false) × (pairs_of b (l ++ (statement_of kind p q ∷ [])) ≡ pairs_of b l))

pairs-more : (b : Bool) (l : List Statement) (kind p q : ℕ) → OneMore b l kind p q
unfolding kept_by pairs_of statement_of equations_of differences_of
pairs-more true l kind p q = go (eqb kind 2) refl
  where
    go : (d : Bool) → eqb kind 2 ≡ d → OneMore true l kind p q
    go true e = inl (rw (e, kept_by), rw (e, statement_of) (equations-snoc l (same p q)))
    go false e = inr (rw (e, kept_by), rw (e, statement_of) (equations-snoc l (differ p q) ∙ append-nil _))
pairs-more false l kind p q = go (eqb kind 2) refl
  where
    go : (d : Bool) → eqb kind 2 ≡ d → OneMore false l kind p q
    go true e = inr (rw (e, kept_by), rw (e, statement_of) (differences-snoc l (same p q) ∙ append-nil _))
    go false e = inl (rw (e, kept_by), rw (e, statement_of) (differences-snoc l (differ p q)))

numbered-snoc : (ns : List ℕ) (l : List (ℕ × ℕ)) (p q : ℕ) → numbered ns (l ++ ((p, q) ∷ [])) ≡ numbered ns l ++ ((number_at ns p, number_at ns q) ∷ [])
unfolding numbered
numbered-snoc ns [] p q = refl
numbered-snoc ns (d ∷ l) p q = ap (λ x. (number_at ns d.0, number_at ns d.1) ∷ x) (numbered-snoc ns l p q)

-- ---- the loop

-- the pairs kept of the first s statements are the first k of the run
pub record Pairing (ns said : List ℕ) (b : Bool) (run₀ run : List ℕ) (k s : ℕ) : Type 0 where
  pub most : s ≤ said_count said
  pub few : k ≤ s
  pub long : length run ≡ length run₀
  pub pairs : pairs_in (take (k * pair_size) run) ≡ numbered ns (pairs_of b (each (statement_in said) s))

module _ (ns said : List ℕ) (b : Bool) (run₀ : List ℕ) where
  pub pairing-start : Pairing ns said b run₀ run₀ 0 0
  unfolding pairs_in numbered each pairs_of differences_of equations_of
  pairing-start = record { most = omega arith; few = omega arith; long = refl; pairs = nothing b }
    where
      nothing : (d : Bool) → [] ≡ numbered ns (pairs_of d [])
      nothing true = refl
      nothing false = refl

  module _ (run : List ℕ) (k s : ℕ) (w : Pairing ns said b run₀ run k s) where
    module _ (room : said_count said * pair_size ≤ length run₀) (h : s < said_count said) where
      pairing-room : k * pair_size + pair_size ≤ length run
      pairing-room = omega (arith, w.few, w.long)

      abbrev x : ℕ
      x = number_at ns (left_in said s)

      abbrev y : ℕ
      y = number_at ns (right_in said s)

      abbrev passed : List Statement
      passed = each (statement_in said) s

      module _ (d : Bool) (ed : d ≡ kept_by (kind_in said s) b) where
        pub pairing-kept : (exit : List ℕ) → exit ≡ put pair_size run k (numbers_of ns said s) → d ≡ true → Pairing ns said b run₀ exit (k + 1) (s + 1)
        unfolding each
        pairing-kept exit ee kept = rw ee (go (pairs-more b passed (kind_in said s) (left_in said s) (right_in said s)))
          where
            go : OneMore b (each (statement_in said) s) (kind_in said s) (left_in said s) (right_in said s)
                → Pairing ns said b run₀ (put pair_size run k (numbers_of ns said s)) (k + 1) (s + 1)
            go (inl a) =
                record {
                  most = omega arith;
                  few = omega (arith, w.few);
                  long = put-long run k x y pairing-room ∙ w.long;
                  pairs =
                      rw (add-one s)
                      (put-more run k x y pairing-room
                      ∙ ap (λ (l : List (ℕ × ℕ)). l ++ ((x, y) ∷ [])) w.pairs
                      ∙ sym (ap (numbered ns) a.1 ∙ numbered-snoc ns (pairs_of b passed) (left_in said s) (right_in said s)));
                }
            go (inr a) = absurd (both_ways _ (ed ∙ a.0) kept)

        pub pairing-left : d ≡ false → Pairing ns said b run₀ run k (s + 1)
        unfolding each
        pairing-left left = go (pairs-more b passed (kind_in said s) (left_in said s) (right_in said s))
          where
            go : OneMore b (each (statement_in said) s) (kind_in said s) (left_in said s) (right_in said s) → Pairing ns said b run₀ run k (s + 1)
            go (inl a) = absurd (both_ways _ left (ed ∙ a.0))
            go (inr a) =
                record { most = omega arith; few = omega (arith, w.few); long = w.long; pairs = rw (add-one s) (w.pairs ∙ sym (ap (numbered ns) a.1)) }

    pub pairing-done : said_count said * pair_size ≤ length run₀ → said_count said ≤ s → Held (numbered ns (pairs_of b (statements_of said))) run k
    unfolding statements_of
    pairing-done room h =
        let e : s ≡ said_count said = omega (arith, w.most) in
        record { room = omega (arith, w.few, w.long); hold = w.pairs ∙ ap (λ (z : ℕ). numbered ns (pairs_of b (each (statement_in said) z))) e }

pub ruleset mine = (
  rules,
  kept-as,
  pairing-start,
  pairing-kept,
  pairing-left,
  pairing-done,
)
