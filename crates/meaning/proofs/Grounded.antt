-- What is accepted is a breach, and a verdict is one.
--     stands_one                   a reference stands for at most one term
--     SameFor                      derivable from the stated equations and the equation of the literal that owns
--     shared-equal, owned-adding   for owner 0 that is to be equal, and for an unequal literal with its equation added
--     step-sound, cited-same       where each step follows, the sides of each step are the same for its owner
--     instances-take               the instances read no place past the number of variables
--     accepted-breach              accepted grounds show a breach, by the places that are read
--     verdict-one                  two verdicts on the same grounds are the same
-- Assumes nothing.
use mathlib.Core.Bool.{Bool, true, false}
use mathlib.Core.List.{List, [], ◌∷◌, ◌++◌}
use mathlib.Core.Path.{◌≡◌, refl, ap, sym, ◌∙◌, subst, subst₂}
use mathlib.Core.Logic.{⊎_elim}
use Prim.Native.Nat.{ℕ, zero, suc, ◌≤◌, ◌<◌}
use native.Mathlib.Omega.{arith}
use lib.Dec.{ltb}
use borrow.Author.Tests.{ltb-true, ltb-false}
use lib.ListN.{length, get_or, take, length-take}
use lib.Seq.{get_or-take, length-take-le}
use Rattle.meaning.specs.Context.{Term, Terms, term₀, Context, equations, differences}
use Rattle.meaning.specs.Equality.{Same, Sames, EqualIn, EqualAdding, stated, added, Stated, given, reflexive, symmetric, transitive, congruent, same_stop, same_more}
use Rattle.meaning.specs.Rules.{Pattern, variable, apply, variables, instance, fill, instances, choice, range_of, Below, Literal, equal, unequal, Clause, Holds, AllHold, Breach}
use Rattle.meaning.specs.Grounds.{Ref, Step, Conclusion, step_at, literal_at, PairAt, instances_of, instance_at, Stands, for-row, for-instance, UnequalAt, Cites, CitesEach, each-stop, each_more, Derives, by-statement, by-reflexivity, by-symmetry, by-transitivity, by-congruence, by-addition, Follows, Concludes, conclusion_for, Verdict, Each, FirstNot, Assigned, FollowsAt, ConcludedAt, Verified, accepted, unassigned, bad, unconcluded, accepts, unassigns, refuses, leaves-open}
use Rattle.meaning.proofs.Table.{length-terms}
use Rattle.meaning.proofs.Pairs.{same-mono}

-- ---- steps are sound

module _ (c : Context) (k : Clause) (a : List ℕ) where
  pub stands_one : (r : Ref) (t u : Term) → Stands c k a r t → Stands c k a r u → t ≡ u
  stands_one r t u (for-row m i e) (for-row n j f) = e ∙ sym f
  stands_one r t u (for-row m i e) (for-instance n j f) = absurd (omega arith)
  stands_one r t u (for-instance m i e) (for-row n j f) = absurd (omega arith)
  stands_one r t u (for-instance m i e) (for-instance n j f) = e ∙ sym f

  -- what a step of an owner may use: the stated equations, and the equation of its literal
  pub data Usable (owner : ℕ) : Term → Term → Type 0 where
    equation : {t u : Term} → Stated c.rows (equations c) t u → Usable owner t u
    addition : {t u : Term} → UnequalAt c k a owner t u → Usable owner t u

  abbrev pub SameFor : ℕ → Term → Term → Type 0
  SameFor owner = Same (Usable owner)

  -- no literal has number 0
  shared-usable : (owner : ℕ) (t u : Term) → Usable 0 t u → SameFor owner t u
  shared-usable owner t u (equation g) = given (equation g)
  shared-usable owner t u (addition w) = absurd (omega (arith, w.counted))

  pub shared-equal : {t u : Term} → SameFor 0 t u → EqualIn c t u
  shared-equal = same-mono each
    where
      each : (t u : Term) → Usable 0 t u → EqualIn c t u
      each t u (equation g) = given g
      each t u (addition w) = absurd (omega (arith, w.counted))

  -- by the added equation of the literal, whose instances are one pair of terms
  pub owned-adding : (i p q : ℕ) → literal_at k.literals i ≡ unequal p q → {t u : Term} → SameFor (suc i) t u
      → EqualAdding c (instance_at c k a p) (instance_at c k a q) t u
  owned-adding i p q e = same-mono each
    where
      each : (t u : Term) → Usable (suc i) t u → EqualAdding c (instance_at c k a p) (instance_at c k a q) t u
      each t u (equation g) = given (stated g)
      each t u (addition w) =
          let h : w.place ≡ i = omega (arith, w.counted) in
          let f : unequal w.left_row w.right_row ≡ unequal p q = sym w.literal ∙ ap (literal_at k.literals) h ∙ e in
          let x : w.left_row ≡ p = cc in
          let y : w.right_row ≡ q = cc in
          subst₂ (EqualAdding c (instance_at c k a p) (instance_at c k a q)) (sym (w.left ∙ ap (instance_at c k a) x)) (sym (w.right ∙ ap (instance_at c k a) y)) (given added)

  -- step i of some steps has sides that are the same for its owner, whatever its sides are
  abbrev Sound : List Step → ℕ → Type 0
  Sound steps i = (t u : Term) → Stands c k a (step_at steps i).left t → Stands c k a (step_at steps i).right u → SameFor (step_at steps i).owner t u

  cites-same : (steps : List Step) → Each (length steps) (Sound steps) → (owner n : ℕ) (t u : Term) → Cites c k a steps owner n t u → SameFor owner t u
  cites-same steps w owner n t u d =
      ⊎_elim (λ e. same-mono (shared-usable owner) (subst (λ (o : ℕ). SameFor o t u) e here)) (λ e. subst (λ (o : ℕ). SameFor o t u) e here) d.usable
    where
      here : SameFor (step_at steps d.place).owner t u
      here = w d.place d.inside t u d.left d.right

  each_same : (steps : List Step) → Each (length steps) (Sound steps) → (owner : ℕ) {ns : List ℕ} {ts us : Terms} → CitesEach c k a steps owner ns ts us
      → Sames (Usable owner) ts us
  each_same steps w owner each-stop = same_stop
  each_same steps w owner (each_more {n} {ns} {t} {u} d ds) = same_more (cites-same steps w owner n t u d) (each_same steps w owner ds)

  derives-same : (earlier : List Step) → Each (length earlier) (Sound earlier) → (s : Step) (t u : Term) → Derives c k a earlier s t u → SameFor s.owner t u
  derives-same earlier w s t u (by-statement e p) = given (equation (p.place, p.inside, p.left, p.right))
  derives-same earlier w s t u (by-reflexivity e p) = subst (λ (x : Term). SameFor s.owner t x) p reflexive
  derives-same earlier w s t u (by-symmetry e d) = symmetric (cites-same earlier w s.owner _ u t d)
  derives-same earlier w s t u (by-transitivity e m d f) = transitive (cites-same earlier w s.owner _ t m d) (cites-same earlier w s.owner _ m u f)
  derives-same earlier w s t u (by-congruence e f ts us p q d) = rw (p, q) (congruent (each_same earlier w s.owner d))
  derives-same earlier w s t u (by-addition e p) = given (addition p)

  follows-sound : (steps : List Step) (i : ℕ) → Each (length (take i steps)) (Sound (take i steps)) → Follows c k a (take i steps) (step_at steps i) → Sound steps i
  follows-sound steps i w f t u p q =
      rw (stands_one _ t f.left_term p f.left, stands_one _ u f.right_term q f.right) (derives-same (take i steps) w (step_at steps i) _ _ f.derives)

  sound-take : (steps : List Step) (i : ℕ) → ((j : ℕ) → j < i → j < length steps → Sound steps j) → Each (length (take i steps)) (Sound (take i steps))
  sound-take steps i w j b =
      let x : j < i = omega (arith, length-take i steps) in
      rw (get_or-take i steps j _ x) (w j x (omega (arith, length-take i steps)))

  module _ (steps : List Step) (follows : Each (length steps) (λ i. Follows c k a (take i steps) (step_at steps i))) where
    -- every step below m
    sound-below : (m i : ℕ) → i < m → i < length steps → Sound steps i
    sound-below zero i l h = absurd (omega arith)
    sound-below (suc m) i l h = follows-sound steps i (sound-take steps i (λ j x y. sound-below m j (omega arith) y)) (follows i h)

    pub step-sound : Each (length steps) (Sound steps)
    step-sound i h = sound-below (suc i) i (omega arith) h

    -- ---- literals

    pub cited-same : (owner n : ℕ) (t u : Term) → Cites c k a steps owner n t u → SameFor owner t u
    cited-same = cites-same steps step-sound

    concludes-holds : (i : ℕ) (d : Conclusion) (l : Literal) → literal_at k.literals i ≡ l → Concludes c k a steps (suc i) d l → Holds c (instances_of c k a) l
    concludes-holds i d (equal p q) e w = shared-equal (cited-same 0 _ _ _ w)
    concludes-holds i d (unequal p q) e w =
        let x : PairAt c.rows (differences c) d.difference w.left w.right = w.pair in
        (x.place, x.inside, subst₂ (EqualAdding c (instance_at c k a p) (instance_at c k a q)) x.left x.right (owned-adding i p q e (cited-same (suc i) _ _ _ w.cites)))

pub all_hold : (c : Context) (ts : List Term) (ls : List Literal) → Each (length ls) (λ i. Holds c ts (literal_at ls i)) → AllHold c ts ls
all_hold c ts [] w = tt
all_hold c ts (l ∷ ls) w = (w 0 (omega arith), all_hold c ts ls (λ i h. w (suc i) (omega arith)))

-- ---- the places that are read

chosen-take : (range : List Term) (a : List ℕ) (n v : ℕ) → v < n → n ≤ length a → get_or (choice range a) v term₀ ≡ get_or (choice range (take n a)) v term₀
chosen-take range [] n v l h = absurd (omega arith)
chosen-take range (x ∷ a) zero v l h = absurd (omega arith)
chosen-take range (x ∷ a) (suc n) zero l h = refl
chosen-take range (x ∷ a) (suc n) (suc v) l h = chosen-take range a n v (omega arith) (omega arith)

fill-take : (range : List Term) (a : List ℕ) (n : ℕ) → n ≤ length a → (done : List Term) (ps : List Pattern) → variables ps ≤ n
    → fill (choice range a) done ps ≡ fill (choice range (take n a)) done ps
unfolding fill instance variables
fill-take range a n h done [] m = refl
fill-take range a n h done (variable v ∷ ps) m =
    rw (chosen-take range a n v (omega arith) h) (fill-take range a n h (done ++ (get_or (choice range (take n a)) v term₀ ∷ [])) ps (omega arith))
fill-take range a n h done (apply f l ∷ ps) m = fill-take range a n h _ ps m

pub instances-take : (range : List Term) (a : List ℕ) (ps : List Pattern) → variables ps ≤ length a
    → instances ps (choice range a) ≡ instances ps (choice range (take (variables ps) a))
unfolding instances
instances-take range a ps h = fill-take range a (variables ps) h [] ps (omega arith)

below_each : (n m : ℕ) (a : List ℕ) → Each m (λ v. (v < length a) × (get_or a v 0 < n)) → (m ≤ length a) × Below n (take m a)
below_each n zero a w = (omega arith, tt)
below_each n (suc m) [] w = absurd (omega (arith, (w 0 (omega arith)).0))
below_each n (suc m) (x ∷ a) w =
    let r : (m ≤ length a) × Below n (take m a) = below_each n m a (λ v h. (omega (arith, (w (suc v) (omega arith)).0), (w (suc v) (omega arith)).1)) in
    (omega (arith, r.0), ((w 0 (omega arith)).1, r.1))

pub accepted-breach : (c : Context) (k : Clause) (a : List ℕ) (steps : List Step) (ds : List Conclusion) → Verified c k a steps ds accepted
    → Breach c (range_of c) k (take (variables k.patterns) a)
accepted-breach c k a steps ds (accepts assigned follows concluded) =
    record {
      long = length-take-le (variables k.patterns) a r.0;
      inside = rw (length-terms c.rows) r.1;
      holds =
          subst (λ (ts : List Term). AllHold c ts k.literals) (instances-take (range_of c) a k.patterns r.0)
          (all_hold c (instances_of c k a) k.literals (λ i h. concludes-holds c k a steps follows i (conclusion_for (suc i) ds) (literal_at k.literals i) refl (concluded i h)));
    }
  where
    r : (variables k.patterns ≤ length a) × Below (length c.rows) (take (variables k.patterns) a)
    r = below_each (length c.rows) (variables k.patterns) a assigned

-- ---- a verdict is one

first-not-one : (n : ℕ) (So : ℕ → Type 0) (i j : ℕ) → FirstNot n So i → FirstNot n So j → i ≡ j
first-not-one n So i j p q = go (ltb i j) (ltb j i) refl refl
  where
    go : (x y : Bool) → ltb i j ≡ x → ltb j i ≡ y → i ≡ j
    go true y e f = absurd (p.fails (q.before i (ltb-true i j e)))
    go false true e f = absurd (q.fails (p.before j (ltb-true j i f)))
    go false false e f = omega (arith, ltb-false i j e, ltb-false j i f)

each-not : {X : Type 0} (n : ℕ) (So : ℕ → Type 0) (i : ℕ) → Each n So → FirstNot n So i → X
each-not n So i w p = absurd (p.fails (w i p.inside))

pub verdict-one : (c : Context) (k : Clause) (a : List ℕ) (steps : List Step) (ds : List Conclusion) (v w : Verdict) → Verified c k a steps ds v
    → Verified c k a steps ds w
    → v ≡ w
verdict-one c k a steps ds v w p q = go p q
  where
    vs : ℕ
    vs = variables k.patterns

    assigned : ℕ → Type 0
    assigned = Assigned c k a steps ds

    follows : ℕ → Type 0
    follows = FollowsAt c k a steps ds

    concluded : ℕ → Type 0
    concluded = ConcludedAt c k a steps ds

    go : {x y : Verdict} → Verified c k a steps ds x → Verified c k a steps ds y → x ≡ y
    go (accepts s f l) (accepts s' f' l') = refl
    go (accepts s f l) (unassigns i n) = each-not vs assigned i s n
    go (accepts s f l) (refuses s' i n) = each-not (length steps) follows i f n
    go (accepts s f l) (leaves-open s' f' i n) = each-not (length k.literals) concluded i l n
    go (unassigns i n) (accepts s f l) = each-not vs assigned i s n
    go (unassigns i n) (unassigns j m) = ap unassigned (first-not-one vs assigned i j n m)
    go (unassigns i n) (refuses s j m) = each-not vs assigned i s n
    go (unassigns i n) (leaves-open s f j m) = each-not vs assigned i s n
    go (refuses s i n) (accepts s' f l) = each-not (length steps) follows i f n
    go (refuses s i n) (unassigns j m) = each-not vs assigned j s m
    go (refuses s i n) (refuses s' j m) = ap (λ (x : ℕ). bad (suc x)) (first-not-one (length steps) follows i j n m)
    go (refuses s i n) (leaves-open s' f j m) = each-not (length steps) follows i f n
    go (leaves-open s f i n) (accepts s' f' l) = each-not (length k.literals) concluded i l n
    go (leaves-open s f i n) (unassigns j m) = each-not vs assigned j s m
    go (leaves-open s f i n) (refuses s' j m) = each-not (length steps) follows j f m
    go (leaves-open s f i n) (leaves-open s' f' j m) = ap (λ (x : ℕ). unconcluded (suc x)) (first-not-one (length k.literals) concluded i j n m)
