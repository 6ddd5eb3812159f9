-- Steps judged by numbers are judged as they are meant.
--     true-follows, follows-true   a step that follows by numbers follows, and the reverse
-- Assumes nothing.
use mathlib.Core.Bool.{Bool, true, false, ◌&&◌}
use mathlib.Core.List.{List, [], ◌∷◌}
use mathlib.Core.Path.{◌≡◌, refl, ap, sym, ◌∙◌, subst}
use Prim.Native.Nat.{ℕ, zero, suc, ◌+◌, ◌-◌, ◌≤◌, ◌<◌}
use native.Mathlib.Omega.{arith}
use lib.Dec.{eqb, ltb}
use borrow.Author.Tests.{eqb-true, eq-eqb, ltb-true, ltb-false, lt-ltb}
use lib.ListN.{length, get_or, take, drop, length-take, get_or-eq_default, get_or-map}
use lib.Seq.{drop-cons}
use Rattle.meaning.specs.Context.{Term, Terms, node, Row, row₀, row_at, pick, terms, term_at, Context, equations}
use Rattle.meaning.specs.Rules.{Below, Clause}
use Rattle.meaning.specs.Values.{number_at, args_of}
use Rattle.meaning.specs.Grounds.{Step, step_at, Stands, Cites, CitesEach, each-stop, each_more, Derives, by-statement, by-reflexivity, by-symmetry, by-transitivity, by-congruence, by-addition, Follows}
use Rattle.meaning.specs.Checking.{key_of, keys_of, numbered, owner_by, side_of, cited_by, met_by, each_by, congruent_by, derives_by, follows_by}
use Rattle.meaning.proofs.Logic.{and-true-left, and-true-right, and_both, false-true}
use Rattle.meaning.proofs.Lists.{below_wider}
use Rattle.meaning.proofs.Table.{term-at}
use Rattle.meaning.proofs.Entries.{entries-ordered, length-entries}
use Rattle.meaning.proofs.Cited.{Ready, n, m, es, Is, is_one, is_same, entry-is, side, stands-side, side-stands, take_at, cited-cites, cites-cited, true-owner, owner-true, added-unequal, unequal-added, paired-pair, pair-paired}

module _ (c : Context) (k : Clause) (a : List ℕ) (ns : List ℕ) (ready : Ready c k a ns) where
  abbrev rows : ℕ
  rows = n c k a ns ready

  abbrev patterns : ℕ
  patterns = m c k a ns ready

  abbrev table : List Row
  table = es c k a ns ready

  abbrev keys : List Row
  keys = keys_of ns table

  abbrev eqs : List (ℕ × ℕ)
  eqs = numbered ns (equations c)

  abbrev Number : ℕ → Term → Type 0
  Number x t = Is c k a ns ready x t

  -- ---- arguments

  args-below : (x : ℕ) → x < rows + patterns → Below (rows + patterns) (row_at table x).args
  args-below x h =
      below_wider x (rows + patterns) (row_at table x).args (omega arith)
      (entries-ordered c.rows a k.patterns ready.formed.fit.ordered ready.formed.placed ready.chosen x
      (omega (arith, length-entries c.rows a k.patterns)))

  entry-node : (x : ℕ) (t : Term) → Number x t → t ≡ node (row_at table x).symbol (pick (terms table) (row_at table x).args)
  entry-node x t p =
      sym p.term
      ∙ term-at table (entries-ordered c.rows a k.patterns ready.formed.fit.ordered ready.formed.placed ready.chosen) x
      (omega (arith, length-entries c.rows a k.patterns, p.inside))

  module _ (steps : List Step) (limit : ℕ) (fits : limit ≤ length steps) where
    abbrev cited : ℕ → ℕ → ℕ → ℕ → Bool
    cited o x l r = cited_by ns rows patterns steps limit o x l r

    abbrev earlier : List Step
    earlier = take limit steps

    each-cites : (o : ℕ) (xs : List ℕ) (i : ℕ) (ls rs : List ℕ) → Below (rows + patterns) ls → Below (rows + patterns) rs
        → each_by ns rows patterns steps limit o xs i (args_of ns ls) (args_of ns rs) ≡ true
        → CitesEach c k a earlier o (drop i xs) (pick (terms table) ls) (pick (terms table) rs)
    unfolding each_by pick
    each-cites o xs i [] [] b d e = each-stop
    each-cites o xs i [] (r ∷ rs) b d e = absurd (let z : ◌≡◌ {A = ℕ} 0 1 = cc in omega arith)
    each-cites o xs i (l ∷ ls) [] b d e = absurd (let z : ◌≡◌ {A = ℕ} 0 1 = cc in omega arith)
    each-cites o xs i (l ∷ ls) (r ∷ rs) b d e =
        rw (drop-cons xs i 0 inside) (each_more w (each-cites o xs (suc i) ls rs b.1 d.1 (and-true-right here there e)))
      where
        here : Bool
        here = cited o (get_or xs i 0) (number_at ns l) (number_at ns r)

        there : Bool
        there = each_by ns rows patterns steps limit o xs (suc i) (args_of ns ls) (args_of ns rs)

        w : Cites c k a earlier o (get_or xs i 0) (term_at table l) (term_at table r)
        w =
            cited-cites c k a ns ready steps limit o (get_or xs i 0) (number_at ns l) (number_at ns r) (term_at table l) (term_at table r) fits
            (entry-is c k a ns ready l b.0)
            (entry-is c k a ns ready r d.0)
            (and-true-left here there e)

        inside : i < length xs
        inside = go (ltb i (length xs)) refl
          where
            go : (x : Bool) → ltb i (length xs) ≡ x → i < length xs
            go true q = ltb-true i (length xs) q
            go false q = absurd (omega (arith, w.counted, get_or-eq_default xs 0 (ltb-false i (length xs) q)))

    cites-each : (o : ℕ) (xs : List ℕ) (i : ℕ) (ls rs : List ℕ) → Below (rows + patterns) ls → Below (rows + patterns) rs
        → {ys : List ℕ} {ts us : Terms} → CitesEach c k a earlier o ys ts us → ys ≡ drop i xs → ts ≡ pick (terms table) ls → us ≡ pick (terms table) rs
        → each_by ns rows patterns steps limit o xs i (args_of ns ls) (args_of ns rs) ≡ true
    unfolding each_by pick
    cites-each o xs i [] [] b d w e f g = refl
    cites-each o xs i [] (r ∷ rs) b d each-stop e f g = absurd (let z : ◌≡◌ {A = ℕ} 0 1 = cc in omega arith)
    cites-each o xs i [] (r ∷ rs) b d (each_more w ws) e f g = absurd (let z : ◌≡◌ {A = ℕ} 0 1 = cc in omega arith)
    cites-each o xs i (l ∷ ls) [] b d each-stop e f g = absurd (let z : ◌≡◌ {A = ℕ} 0 1 = cc in omega arith)
    cites-each o xs i (l ∷ ls) [] b d (each_more w ws) e f g = absurd (let z : ◌≡◌ {A = ℕ} 0 1 = cc in omega arith)
    cites-each o xs i (l ∷ ls) (r ∷ rs) b d each-stop e f g = absurd (let z : ◌≡◌ {A = ℕ} 0 1 = cc in omega arith)
    cites-each o xs i (l ∷ ls) (r ∷ rs) b d (each_more {n = y} {ns = ys} {t = t} {u = u} {ts = ts} {us = us} w ws) e f g =
        let p : t ≡ term_at table l = cc in
        let q : u ≡ term_at table r = cc in
        let h : i < length xs = drop-inside xs i y ys e in
        let v : y ∷ ys ≡ get_or xs i 0 ∷ drop (suc i) xs = e ∙ drop-cons xs i 0 h in
        let z : y ≡ get_or xs i 0 = cc in
        let d₁ : ys ≡ drop (suc i) xs = cc in
        let x : ts ≡ pick (terms table) ls = cc in
        let j : us ≡ pick (terms table) rs = cc in
        and_both (cited o (get_or xs i 0) (number_at ns l) (number_at ns r)) _
        (cites-cited c k a ns ready steps limit o (get_or xs i 0) (number_at ns l) (number_at ns r) t u
        (subst (Number (number_at ns l)) (sym p) (entry-is c k a ns ready l b.0))
        (subst (Number (number_at ns r)) (sym q) (entry-is c k a ns ready r d.0))
        (subst (λ (v : ℕ). Cites c k a earlier o v t u) z w))
        (cites-each o xs (suc i) ls rs b.1 d.1 ws d₁ x j)
      where
        drop-inside : (xs : List ℕ) (i y : ℕ) (ys : List ℕ) → y ∷ ys ≡ drop i xs → i < length xs
        drop-inside [] zero y ys e = absurd (let z : ◌≡◌ {A = ℕ} 0 1 = cc in omega arith)
        drop-inside [] (suc i) y ys e = absurd (let z : ◌≡◌ {A = ℕ} 0 1 = cc in omega arith)
        drop-inside (x ∷ xs) zero y ys e = omega arith
        drop-inside (x ∷ xs) (suc i) y ys e = omega (arith, drop-inside xs i y ys e)

    -- ---- the kinds

    -- congruence by the entries themselves
    congruent-keys : (o : ℕ) (xs : List ℕ) (l r : ℕ) → congruent_by ns rows patterns steps limit o xs (row_at keys l) (row_at keys r)
        ≡ (eqb (row_at table l).symbol (row_at table r).symbol
        && each_by ns rows patterns steps limit o xs 0 (args_of ns (row_at table l).args) (args_of ns (row_at table r).args))
    unfolding congruent_by keys_of key_of
    congruent-keys o xs l r = rw (get_or-map (key_of ns) table l row₀, get_or-map (key_of ns) table r row₀)

    congruent-derives : (s : Step) (l r : ℕ) (t u : Term) → Number l t → Number r u → s.kind ≡ 5
        → congruent_by ns rows patterns steps limit s.owner s.numbers (row_at keys l) (row_at keys r) ≡ true
        → Derives c k a earlier s t u
    congruent-derives s l r t u p q h e =
        let same : Bool = eqb (row_at table l).symbol (row_at table r).symbol in
        let each : Bool = each_by ns rows patterns steps limit s.owner s.numbers 0 (args_of ns (row_at table l).args) (args_of ns (row_at table r).args) in
        let g : (same && each) ≡ true = sym (congruent-keys s.owner s.numbers l r) ∙ e in
        let f : (row_at table l).symbol ≡ (row_at table r).symbol = eqb-true _ _ (and-true-left same each g) in
        by-congruence h (row_at table l).symbol (pick (terms table) (row_at table l).args) (pick (terms table) (row_at table r).args) (entry-node l t p)
        (entry-node r u q ∙ ap (λ (x : ℕ). node x (pick (terms table) (row_at table r).args)) (sym f))
        (each-cites s.owner s.numbers 0 (row_at table l).args (row_at table r).args (args-below l p.inside) (args-below r q.inside)
        (and-true-right same each g))

    congruent-true : (o : ℕ) (xs : List ℕ) (l r : ℕ) (t u : Term) → Number l t → Number r u → (f : ℕ) (ts us : Terms) → t ≡ node f ts → u ≡ node f us
        → CitesEach c k a earlier o xs ts us
        → congruent_by ns rows patterns steps limit o xs (row_at keys l) (row_at keys r) ≡ true
    congruent-true o xs l r t u p q f ts us d e w =
        let x : node f ts ≡ node (row_at table l).symbol (pick (terms table) (row_at table l).args) = sym d ∙ entry-node l t p in
        let y : node f us ≡ node (row_at table r).symbol (pick (terms table) (row_at table r).args) = sym e ∙ entry-node r u q in
        let g : (row_at table l).symbol ≡ (row_at table r).symbol = cc in
        let h : ts ≡ pick (terms table) (row_at table l).args = cc in
        let i : us ≡ pick (terms table) (row_at table r).args = cc in
        congruent-keys o xs l r
        ∙ and_both (eqb (row_at table l).symbol (row_at table r).symbol) _ (eq-eqb _ _ g)
        (cites-each o xs 0 (row_at table l).args (row_at table r).args (args-below l p.inside) (args-below r q.inside) w refl h i)

    abbrev middle : ℕ → ℕ
    middle x = side_of ns rows patterns (step_at steps (x - 1)).right

    cites-right : (o x : ℕ) (t u : Term) → Cites c k a earlier o x t u → Number (middle x) u
    cites-right o x t u d =
        let h : d.place < limit = omega (arith, d.inside, length-take limit steps) in
        let z : d.place ≡ x - 1 = omega (arith, d.counted) in
        subst (λ (i : ℕ). Number (side_of ns rows patterns (step_at steps i).right) u) z
        (stands-side c k a ns ready (step_at steps d.place).right u
        (subst (λ (s : Step). Stands c k a s.right u) (take_at c k a ns ready steps limit d.place h) d.right))

    met-derives : (s : Step) (l r : ℕ) (t u : Term) → Number l t → Number r u → s.kind ≡ 4
        → met_by ns rows patterns steps limit s.owner (get_or s.numbers 0 0) (get_or s.numbers 1 0) l r ≡ true
        → Derives c k a earlier s t u
    unfolding met_by
    met-derives s l r t u p q h e =
        let x : ℕ = get_or s.numbers 0 0 in
        let y : ℕ = get_or s.numbers 1 0 in
        let b : Bool = ltb (middle x) (rows + patterns) in
        let d : Bool = cited s.owner x l (middle x) in
        let f : Bool = cited s.owner y (middle x) r in
        let g : (b && f) ≡ true = and-true-right d (b && f) e in
        let v : (z : Term) × Stands c k a (step_at steps (x - 1)).right z =
        side-stands c k a ns ready (step_at steps (x - 1)).right (ltb-true (middle x) (rows + patterns) (and-true-left b f g)) in
        let w : Number (middle x) v.0 = stands-side c k a ns ready (step_at steps (x - 1)).right v.0 v.1 in
        by-transitivity h v.0 (cited-cites c k a ns ready steps limit s.owner x l (middle x) t v.0 fits p w (and-true-left d (b && f) e))
        (cited-cites c k a ns ready steps limit s.owner y (middle x) r v.0 u fits w q (and-true-right b f g))

    met-true : (o x y l r : ℕ) (t u z : Term) → Number l t → Number r u → Cites c k a earlier o x t z → Cites c k a earlier o y z u
        → met_by ns rows patterns steps limit o x y l r ≡ true
    unfolding met_by
    met-true o x y l r t u z p q d e =
        let w : Number (middle x) z = cites-right o x t z d in
        and_both (cited o x l (middle x)) _ (cites-cited c k a ns ready steps limit o x l (middle x) t z p w d)
        (and_both (ltb (middle x) (rows + patterns)) (cited o y (middle x) r) (lt-ltb (middle x) (rows + patterns) w.inside)
        (cites-cited c k a ns ready steps limit o y (middle x) r z u w q e))

    derives-by : (s : Step) (l r : ℕ) (t u : Term) → Number l t → Number r u
        → derives_by ns rows patterns keys eqs k.literals steps limit s.owner s.kind s.numbers l r ≡ true
        → Derives c k a earlier s t u
    unfolding derives_by
    derives-by s l r t u p q e =
        go (eqb s.kind 1) (eqb s.kind 2) (eqb s.kind 3) (eqb s.kind 4) (eqb s.kind 5) (eqb s.kind 6) refl refl refl refl refl refl
      where
        go : (b₁ b₂ b₃ b₄ b₅ b₆ : Bool) → eqb s.kind 1 ≡ b₁ → eqb s.kind 2 ≡ b₂ → eqb s.kind 3 ≡ b₃ → eqb s.kind 4 ≡ b₄ → eqb s.kind 5 ≡ b₅
            → eqb s.kind 6 ≡ b₆
            → Derives c k a earlier s t u
        go true b₂ b₃ b₄ b₅ b₆ e₁ e₂ e₃ e₄ e₅ e₆ =
            by-statement (eqb-true s.kind 1 e₁)
            (paired-pair c k a ns ready (equations c) ready.formed.fit.within (get_or s.numbers 0 0) l r t u p q (rw (e₁, derives_by) at e))
        go false true b₃ b₄ b₅ b₆ e₁ e₂ e₃ e₄ e₅ e₆ =
            let z : l ≡ r = eqb-true l r (rw (e₁, derives_by, e₂) at e) in
            by-reflexivity (eqb-true s.kind 2 e₂) (is_one c k a ns ready p (subst (λ (x : ℕ). Number x u) (sym z) q))
        go false false true b₄ b₅ b₆ e₁ e₂ e₃ e₄ e₅ e₆ =
            by-symmetry (eqb-true s.kind 3 e₃)
            (cited-cites c k a ns ready steps limit s.owner (get_or s.numbers 0 0) r l u t fits q p (rw (e₁, derives_by, e₂, e₃) at e))
        go false false false true b₅ b₆ e₁ e₂ e₃ e₄ e₅ e₆ = met-derives s l r t u p q (eqb-true s.kind 4 e₄) (rw (e₁, derives_by, e₂, e₃, e₄) at e)
        go false false false false true b₆ e₁ e₂ e₃ e₄ e₅ e₆ = congruent-derives s l r t u p q (eqb-true s.kind 5 e₅) (rw (e₁, derives_by, e₂, e₃, e₄, e₅) at e)
        go false false false false false true e₁ e₂ e₃ e₄ e₅ e₆ =
            by-addition (eqb-true s.kind 6 e₆) (added-unequal c k a ns ready s.owner l r t u p q (rw (e₁, derives_by, e₂, e₃, e₄, e₅, e₆) at e))
        go false false false false false false e₁ e₂ e₃ e₄ e₅ e₆ = false-true (rw (e₁, derives_by, e₂, e₃, e₄, e₅, e₆) at e) refl

    kind-true : (o kind : ℕ) (xs : List ℕ) (l r : ℕ) (b : Bool) (i : ℕ) → kind ≡ i
        → derives_by ns rows patterns keys eqs k.literals steps limit o i xs l r ≡ b
        → b ≡ true
        → derives_by ns rows patterns keys eqs k.literals steps limit o kind xs l r ≡ true
    kind-true o kind xs l r b i h e f = rw h (e ∙ f)

    derives-true : (s : Step) (l r : ℕ) (t u : Term) → Number l t → Number r u → Derives c k a earlier s t u
        → derives_by ns rows patterns keys eqs k.literals steps limit s.owner s.kind s.numbers l r ≡ true
    unfolding derives_by
    derives-true s l r t u p q (by-statement h w) =
        kind-true s.owner s.kind s.numbers l r _ 1 h refl (pair-paired c k a ns ready (equations c) ready.formed.fit.within (get_or s.numbers 0 0) l r t u p q w)
    derives-true s l r t u p q (by-reflexivity h w) =
        kind-true s.owner s.kind s.numbers l r _ 2 h refl (eq-eqb l r (is_same c k a ns ready (subst (Number l) w p) q))
    derives-true s l r t u p q (by-symmetry h w) =
        kind-true s.owner s.kind s.numbers l r _ 3 h refl (cites-cited c k a ns ready steps limit s.owner (get_or s.numbers 0 0) r l u t q p w)
    derives-true s l r t u p q (by-transitivity h z w v) =
        kind-true s.owner s.kind s.numbers l r _ 4 h refl (met-true s.owner (get_or s.numbers 0 0) (get_or s.numbers 1 0) l r t u z p q w v)
    derives-true s l r t u p q (by-congruence h f ts us d e w) =
        kind-true s.owner s.kind s.numbers l r _ 5 h refl (congruent-true s.owner s.numbers l r t u p q f ts us d e w)
    derives-true s l r t u p q (by-addition h w) =
        kind-true s.owner s.kind s.numbers l r _ 6 h refl (unequal-added c k a ns ready s.owner l r t u p q w)

  -- ---- a step, after those before it

  module _ (steps : List Step) (i : ℕ) (inside : i < length steps) where
    abbrev s : Step
    s = step_at steps i

    abbrev l : ℕ
    l = side c k a ns ready s.left

    abbrev r : ℕ
    r = side c k a ns ready s.right

    pub true-follows : follows_by ns rows patterns keys eqs k.literals steps i ≡ true → Follows c k a (take i steps) s
    unfolding follows_by
    true-follows e =
        record {
          owner = true-owner c k a ns ready s.owner (and-true-left known (there && derived) e);
          left_term = x.0;
          right_term = y.0;
          left = x.1;
          right = y.1;
          derives = derives-by steps i (omega arith) s l r x.0 y.0 (stands-side c k a ns ready s.left x.0 x.1)
              (stands-side c k a ns ready s.right y.0 y.1)
              (and-true-right there derived f);
        }
      where
        known : Bool
        known = owner_by k.literals s.owner

        there : Bool
        there = ltb l (rows + patterns) && ltb r (rows + patterns)

        derived : Bool
        derived = derives_by ns rows patterns keys eqs k.literals steps i s.owner s.kind s.numbers l r

        f : (there && derived) ≡ true
        f = and-true-right known (there && derived) e

        g : there ≡ true
        g = and-true-left there derived f

        x : (t : Term) × Stands c k a s.left t
        x = side-stands c k a ns ready s.left (ltb-true l (rows + patterns) (and-true-left (ltb l (rows + patterns)) (ltb r (rows + patterns)) g))

        y : (t : Term) × Stands c k a s.right t
        y = side-stands c k a ns ready s.right (ltb-true r (rows + patterns) (and-true-right (ltb l (rows + patterns)) (ltb r (rows + patterns)) g))

    pub follows-true : Follows c k a (take i steps) s → follows_by ns rows patterns keys eqs k.literals steps i ≡ true
    unfolding follows_by
    follows-true w =
        let p : Number l w.left_term = stands-side c k a ns ready s.left w.left_term w.left in
        let q : Number r w.right_term = stands-side c k a ns ready s.right w.right_term w.right in
        and_both (owner_by k.literals s.owner) _ (owner-true c k a ns ready s.owner w.owner)
        (and_both (ltb l (rows + patterns) && ltb r (rows + patterns)) _
        (and_both (ltb l (rows + patterns)) (ltb r (rows + patterns)) (lt-ltb l (rows + patterns) p.inside) (lt-ltb r (rows + patterns) q.inside))
        (derives-true steps i (omega arith) s l r w.left_term w.right_term p q w.derives))
