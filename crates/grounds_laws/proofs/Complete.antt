-- Closed classes give one label to entries with equal terms.
--     lowest          the first entry with an entry's label
--     equal-entries   equality by the context's rows is equality by the entries
--     equal-labels    two entries with equal terms have one label
--     adding-labels   likewise where the equation of an unequal literal is added
-- Assumes nothing.
use mathlib.Core.Bool.{Bool, true, false, not}
use mathlib.Core.List.{List, [], ◌∷◌, map}
use mathlib.Core.Path.{◌≡◌, refl, ap, ap₂, sym, ◌∙◌, subst}
use Prim.Native.Nat.{ℕ, zero, suc, ◌+◌, ◌≤◌, ◌<◌}
use native.Mathlib.Omega.{arith}
use lib.Dec.{eqb, ltb}
use borrow.Author.Tests.{eqb-true, eq-eqb, ltb-true, ltb-false, not-false}
use lib.ListN.{length}
use Rattle.meaning.specs.Context.{Term, Row, row_at, term_at, left_at, right_at, Context, equations}
use Rattle.meaning.specs.Equality.{Stated, Equal, EqualIn, Adding, stated, added, EqualAdding, given, symmetric, transitive}
use Rattle.meaning.specs.Rules.{unequal, Clause, Below}
use Rattle.meaning.specs.Formed.{Within}
use Rattle.meaning.specs.Values.{number_at, args_of}
use Rattle.meaning.specs.Grounds.{literal_at, instance_at}
use Rattle.meaning.specs.Checking.{key_of, numbered, first_false, Ends}
use Rattle.meaning.proofs.Logic.{and_both}
use Rattle.meaning.proofs.Lists.{same_list-self}
use Rattle.meaning.proofs.Entries.{entry_row, entry-instance, length-entries}
use Rattle.meaning.proofs.Cited.{Ready, length-numbered, numbered-left, numbered-right}
use Rattle.meaning.proofs.Grounded.{SameFor, shared-equal, owned-adding, cited-same}
use Rattle.meaning.proofs.Verdicts.{false-ends}
use Rattle.meaning.proofs.Pairs.{same-mono}
use Rattle.meaning.proofs.Model.{Closed}
use Rattle.meaning.proofs.Meaning.{meaning-rows}
use Rattle.grounds_numbers.specs.Limits.{most_entries}
use Rattle.grounds_laws.specs.Draft.{draft}
use Rattle.grounds_laws.specs.Classes.{label_in, State}
use Rattle.grounds_laws.specs.Rounds.{alike}
use Rattle.grounds_laws.proofs.Builds.{Run, all, table, term, number-term, number-inside, ordered}
use Rattle.grounds_laws.proofs.Joins.{Sound}
use Rattle.grounds_laws.proofs.Passes.{Keys, Met, args-below}

-- ---- the first entry with a label

module _ (label : ℕ → ℕ) where
  unfoldable pub other : ℕ → ℕ → Bool
  other x i = not (eqb (label i) (label x))

  unfoldable pub lowest : ℕ → ℕ
  lowest x = first_false (other x) 0 x

  ends : (x : ℕ) → Ends (other x) x (lowest x)
  unfolding lowest
  ends x = false-ends (other x) x

  pub lowest-low : (x : ℕ) → lowest x ≤ x
  lowest-low x = (ends x).most

  pub lowest-label : (x : ℕ) → label (lowest x) ≡ label x
  unfolding other
  lowest-label x = go (ltb (lowest x) x) refl
    where
      go : (b : Bool) → ltb (lowest x) x ≡ b → label (lowest x) ≡ label x
      go true e = eqb-true _ _ (not-false (eqb (label (lowest x)) (label x)) ((ends x).fails (ltb-true (lowest x) x e)))
      go false e = ap label (omega (arith, lowest-low x, ltb-false (lowest x) x e))

  lowest-le : (x y : ℕ) → label x ≡ label y → lowest x ≤ lowest y
  unfolding other
  lowest-le x y e = go (ltb (lowest y) (lowest x)) refl
    where
      go : (b : Bool) → ltb (lowest y) (lowest x) ≡ b → lowest x ≤ lowest y
      go true f =
          let t : not (eqb (label (lowest y)) (label x)) ≡ true = (ends x).before (lowest y) (ltb-true (lowest y) (lowest x) f) in
          let s : eqb (label (lowest y)) (label x) ≡ true = eq-eqb _ _ (lowest-label y ∙ sym e) in
          absurd (let o : not true ≡ true = subst (λ (b : Bool). not b ≡ true) s t in let z : ◌≡◌ {A = ℕ} 0 1 = cc in omega arith)
      go false f = ltb-false (lowest y) (lowest x) f

  pub lowest-same : (x y : ℕ) → label x ≡ label y → lowest x ≡ lowest y
  lowest-same x y e = omega (arith, lowest-le x y e, lowest-le y x (sym e))

-- ---- equality by the entries

map-finer : (f h : ℕ → ℕ) → ((x y : ℕ) → h x ≡ h y → f x ≡ f y) → (l m : List ℕ) → map h l ≡ map h m → map f l ≡ map f m
map-finer f h w [] [] e = refl
map-finer f h w [] (y ∷ m) e = absurd (let z : ◌≡◌ {A = ℕ} 0 1 = cc in omega arith)
map-finer f h w (x ∷ l) [] e = absurd (let z : ◌≡◌ {A = ℕ} 0 1 = cc in omega arith)
map-finer f h w (x ∷ l) (y ∷ m) e =
    let p : h x ≡ h y = cc in
    let q : map h l ≡ map h m = cc in
    ap₂ ◌∷◌ (w x y p) (map-finer f h w l m q)

module _ (c : Context) (k : Clause) (a : List ℕ) (ns : List ℕ) (ready : Ready c k a ns) where
  abbrev N : ℕ
  N = all c k a ns ready

  abbrev rows : List Row
  rows = table c k a ns ready

  abbrev side : ℕ → ℕ
  side p = number_at ns (length c.rows + p)

  entry-term : (x : ℕ) → x < length c.rows → term_at rows x ≡ term_at c.rows x
  entry-term x h = entry_row c.rows a ready.formed.fit.ordered k.patterns ready.chosen x h

  pub side-term : (p : ℕ) → p < length k.patterns → term c k a ns ready (side p) ≡ instance_at c k a p
  side-term p h =
      number-term c k a ns ready (length c.rows + p) (omega arith)
      ∙ entry-instance c.rows a ready.formed.fit.ordered k.patterns ready.chosen p

  pub side-inside : (p : ℕ) → p < length k.patterns → side p < N
  side-inside p h = number-inside c k a ns ready (length c.rows + p) (omega arith)

  stated-entries : {s t : Term} → Stated c.rows (equations c) s t → Stated rows (equations c) s t
  stated-entries g = (
    g.0,
    g.1,
    g.2 ∙ sym (entry-term (left_at (equations c) g.0) (ready.formed.fit.within g.0 g.1).0),
    g.3 ∙ sym (entry-term (right_at (equations c) g.0) (ready.formed.fit.within g.0 g.1).1),
  )

  pub equal-entries : {s t : Term} → EqualIn c s t → Equal rows (equations c) s t
  equal-entries = same-mono (λ s t g. given (stated-entries g))

  -- the equations, and that of two pattern rows
  abbrev added_to : ℕ → ℕ → List (ℕ × ℕ)
  added_to p q = (side p, side q) ∷ equations c

  adding-entries : (p q : ℕ) → p < length k.patterns → q < length k.patterns → {s t : Term} → EqualAdding c (instance_at c k a p) (instance_at c k a q) s t
      → Equal rows (added_to p q) s t
  adding-entries p q hp hq = same-mono each
    where
      each : (s t : Term) → Adding c.rows (equations c) (instance_at c k a p) (instance_at c k a q) s t → Equal rows (added_to p q) s t
      each s t (stated g) =
          let e : Stated rows (equations c) s t = stated-entries g in given (suc e.0, omega (arith, e.1), e.2, e.3)
      each s t added = given (0, omega arith, sym (side-term p hp), sym (side-term q hq))

  within-rows : Within (length rows) (equations c)
  within-rows i h = (
    omega (arith, length-entries c.rows a k.patterns, (ready.formed.fit.within i h).0),
    omega (arith, length-entries c.rows a k.patterns, (ready.formed.fit.within i h).1),
  )

  module _ (run : Run c k a) (few : length c.rows + length k.patterns ≤ most_entries) (ks : List Row) (keyed : Keys c k a ns ready few ks) (state : State)
      (w : Sound c k a ns ready run state) (met : (x : ℕ) → x < N → (y : ℕ) → y < x → Met ks x y state) where
    abbrev label : ℕ → ℕ
    label x = label_in state.table x

    abbrev low : ℕ → ℕ
    low x = lowest (label_in state.table) x

    inside : (x : ℕ) → x < length rows → x < N
    inside x h = omega (arith, length-entries c.rows a k.patterns)

    key-labels : (l : List ℕ) → Below N l → map label (args_of ns l) ≡ map label l
    key-labels [] b = refl
    key-labels (x ∷ l) b = ap₂ ◌∷◌ (sym (w.like x b.0)) (key-labels l b.1)

    agreeing : (x y : ℕ) → x < N → y < N → (row_at rows x).symbol ≡ (row_at rows y).symbol → map label (row_at rows x).args ≡ map label (row_at rows y).args
        → alike ks state.table x y ≡ true
    unfolding alike key_of
    agreeing x y hx hy e f =
        rw (keyed.keys x hx, keyed.keys y hy)
        (and_both (eqb (row_at rows x).symbol (row_at rows y).symbol) _ (eq-eqb _ _ e)
        (rw (key-labels (row_at rows x).args (args-below c k a ns ready few x hx) ∙ f ∙ sym (key-labels (row_at rows y).args (args-below c k a ns ready few y hy)))
        (same_list-self _)))

    one_label_lem : (x y : ℕ) → x < N → y < N → (row_at rows x).symbol ≡ (row_at rows y).symbol → map label (row_at rows x).args ≡ map label (row_at rows y).args
        → label x ≡ label y
    one_label_lem x y hx hy e f = go (ltb x y) (ltb y x) refl refl
      where
        go : (b d : Bool) → ltb x y ≡ b → ltb y x ≡ d → label x ≡ label y
        go true d p q = sym ((met y hy x (ltb-true x y p)).met (agreeing y x hy hx (sym e) (sym f)))
        go false true p q = (met x hx y (ltb-true y x q)).met (agreeing x y hx hy e f)
        go false false p q = ap label (omega (arith, ltb-false x y p, ltb-false y x q))

    -- by equations that the classes have, and that give what the owner may use
    module _ (eqs : List (ℕ × ℕ)) (within : Within (length rows) eqs) (joined : (i : ℕ) → i < length eqs → label (left_at eqs i) ≡ label (right_at eqs i))
        (usable : (s t : Term) → SameFor c k a run.owner s t → Equal rows eqs s t) where
      entry-label : (x : ℕ) → x < N → Equal rows eqs (term_at rows x) (term_at rows (label x))
      entry-label x h =
          usable _ _ (cited-same c k a (draft (length c.rows) run.from run.owner state.cells) w.good.follow run.owner _ _ _ (w.why x h))

      low-closed : Closed rows eqs low
      low-closed =
          record {
            low = λ x h. lowest-low label x;
            settled = λ x h. lowest-same label (low x) x (lowest-label label x);
            joined = λ i h. lowest-same label (left_at eqs i) (right_at eqs i) (joined i h);
            alike = λ x y hx hy e f. lowest-same label x y (one_label_lem x y (inside x hx) (inside y hy) e
                (map-finer label low (λ u v q. sym (lowest-label label u) ∙ ap label q ∙ lowest-label label v) (row_at rows x).args (row_at rows y).args f));
            sound = λ x h.
                let l : low x < N = omega (arith, lowest-low label x, inside x h) in
                transitive (entry-label x (inside x h))
                (subst (λ (i : ℕ). Equal rows eqs (term_at rows i) (term_at rows (low x))) (lowest-label label x) (symmetric (entry-label (low x) l)));
          }

      by-labels : (x y : ℕ) → x < N → y < N → Equal rows eqs (term c k a ns ready x) (term c k a ns ready y) → label x ≡ label y
      by-labels x y hx hy d =
          let e : low x ≡ low y =
          (meaning-rows rows eqs low (ordered c k a ns ready) within low-closed x y (omega (arith, length-entries c.rows a k.patterns))
          (omega (arith, length-entries c.rows a k.patterns))
          ).0
          d in
          sym (lowest-label label x) ∙ ap label e ∙ lowest-label label y

    -- where the sides of each stated equation have one label
    module _ (stated : (i : ℕ) → i < length (numbered ns (equations c))
        → label (left_at (numbered ns (equations c)) i) ≡ label (right_at (numbered ns (equations c)) i)) where
      joined : (i : ℕ) → i < length (equations c) → label (left_at (equations c) i) ≡ label (right_at (equations c) i)
      joined i h =
          w.like (left_at (equations c) i) (omega (arith, (ready.formed.fit.within i h).0))
          ∙ ap label (sym (numbered-left ns (equations c) i h))
          ∙ stated i (omega (arith, length-numbered ns (equations c)))
          ∙ ap label (numbered-right ns (equations c) i h)
          ∙ sym (w.like (right_at (equations c) i) (omega (arith, (ready.formed.fit.within i h).1)))

      pub equal-labels : run.owner ≡ 0 → (x y : ℕ) → x < N → y < N → EqualIn c (term c k a ns ready x) (term c k a ns ready y) → label x ≡ label y
      equal-labels e x y hx hy d =
          by-labels (equations c) within-rows joined (λ s t g. equal-entries (shared-equal c k a (subst (λ (o : ℕ). SameFor c k a o s t) e g))) x y hx hy (equal-entries d)

      -- and those of the unequal literal that owns the steps too
      pub adding-labels : (j p q : ℕ) → run.owner ≡ suc j → literal_at k.literals j ≡ unequal p q → p < length k.patterns → q < length k.patterns
          → label (side p) ≡ label (side q)
          → (x y : ℕ) → x < N → y < N → EqualAdding c (instance_at c k a p) (instance_at c k a q) (term c k a ns ready x) (term c k a ns ready y)
          → label x ≡ label y
      adding-labels j p q e l hp hq one x y hx hy d =
          by-labels (added_to p q) within also (λ s t g. adding-entries p q hp hq (owned-adding c k a j p q l (subst (λ (o : ℕ). SameFor c k a o s t) e g))) x y hx hy
          (adding-entries p q hp hq d)
        where
          within : Within (length rows) (added_to p q)
          within zero h = (
            omega (arith, length-entries c.rows a k.patterns, side-inside p hp),
            omega (arith, length-entries c.rows a k.patterns, side-inside q hq),
          )
          within (suc i) h = within-rows i (omega arith)

          also : (i : ℕ) → i < length (added_to p q) → label (left_at (added_to p q) i) ≡ label (right_at (added_to p q) i)
          also zero h = one
          also (suc i) h = joined i (omega arith)
