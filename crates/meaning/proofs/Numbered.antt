-- The numbers of pattern rows that are read in the order (level, row): for a closed table two rows hold one number just where their instances are equal.
-- The invariant: the numbers of the rows read, with the classes, name the values of their instances, one number for one value. A row that finds neither a
-- class nor a row read has a value that nothing read has, and its own number, which nothing read has either, as only the row itself can give it.
--     Means, means-choice              the number given for a variable is the class of its term; for an assignment of representatives it is
--     Numbered, numbered-stages        the invariant; it stands after each stage
--     equal-stage, row-stage           equal instances, and an instance equal to a context row, among the rows up to level k
--     equal-numbers, equal-row         the same for all rows
--     holds-numbers, all-hold-numbers  a literal, and all of a list, by any test that is right of instances that differ
-- Assumes nothing.
use mathlib.Core.Bool.{Bool, true, false}
use mathlib.Core.List.{List, [], ◌∷◌, ◌++◌, map}
use mathlib.Core.Path.{◌≡◌, refl, ap, sym, ◌∙◌, subst}
use mathlib.Core.Logic.{◌⊎◌, inl, inr, ⊎_elim, ◌↔◌}
use Prim.Native.Nat.{ℕ, zero, suc, ◌+◌, ◌≤◌, ◌<◌}
use native.Mathlib.Omega.{arith}
use borrow.Author.Tests.{eqb-true, eq-eqb}
use lib.ListN.{length, get_or, length-set, length-replicate}
use lib.Seq.{get_or-set_same, get_or-set_other}
use Rattle.meaning.specs.Context.{Term, Row, row_at, term₀, pick, terms, term_at, Context, equations}
use Rattle.meaning.specs.Equality.{Equal}
use Rattle.meaning.specs.Rules.{Pattern, variable, apply, variables, Literal, equal, unequal, instance, instances, Differ, Holds, AllHold, choice, Below}
use Rattle.meaning.specs.Formed.{Ordered, Within, AllPlaced, Names, NamesAll}
use Rattle.meaning.specs.FirstBy.{holds_by, all_hold_by}
use Rattle.meaning.specs.Values.{levels, rows_at, pattern_at, number_at, args_of, Numbering, is_over, met, number_of, step, number, unread, stages, numbers}
use Rattle.meaning.proofs.Logic.{and-true-left, and-true-right, and_both, false-true}
use Rattle.meaning.proofs.Model.{Closed, Val, Vals, at_row, app, settle, eval, evals}
use Rattle.meaning.proofs.Meaning.{answer, Answer, meaning, eval-row}
use Rattle.meaning.proofs.Box.{Mem}
use Rattle.meaning.proofs.Prefix.{levels-most}
use Rattle.meaning.proofs.Levels.{mem-front, mem-back, mem-cases, level_at, instance-at, Ready, ready-more, Orderly, level-orderly, none_read, stages-read}
use Rattle.meaning.proofs.Naming.{Fair, Nameds, fair-values, fair-numbers, Fresh, fair-more, Small, Alike, held-settle, over-true, over-self, MetCases, met-cases}

-- an application outside the table shows its symbol and its arguments
settle-app : (rep : ℕ → ℕ) (g : ℕ) (ws : Vals) (rows : List Row) (f : ℕ) (vs : Vals) → settle rep g ws 0 rows ≡ app f vs → (g ≡ f) × (ws ≡ vs)
settle-app rep g ws rows f vs e = go (answer rep g ws 0 rows)
  where
    go : Answer rep g ws 0 rows → (g ≡ f) × (ws ≡ vs)
    go (inl a) = absurd (let z : ◌≡◌ {A = ℕ} 0 1 = cc (a.3, e) in omega arith)
    go (inr a) = (cc (a.0, e), cc (a.0, e))

below-rep : (rep : ℕ → ℕ) (n : ℕ) → ((i : ℕ) → i < n → rep i ≤ i) → (m : ℕ) → m ≤ n → (l : List ℕ) → Below m l → Below n (map rep l)
below-rep rep n low m h [] b = tt
below-rep rep n low m h (a ∷ l) b = (omega (arith, low a (omega (arith, b.0)), b.0), below-rep rep n low m h l b.1)

-- the number given for a variable is the class of its term
abbrev pub Means : List Row → (ℕ → ℕ) → List ℕ → List Term → ℕ → Type 0
Means rows rep given chosen v = (number_at given v < length rows) × (eval rows rep (get_or chosen v term₀) ≡ at_row (number_at given v))

-- the rows of an assignment of representatives are the classes of their own terms
pub means-choice : (rows : List Row) (eqs : List (ℕ × ℕ)) (rep : ℕ → ℕ) → Ordered rows → Within (length rows) eqs → Closed rows eqs rep
    → (a : List ℕ) → ((x : ℕ) → Mem x a → (x < length rows) × (rep x ≡ x)) → (v : ℕ) → v < length a → Means rows rep a (choice (terms rows) a) v
means-choice rows eqs rep o i c [] h v l = absurd (omega arith)
means-choice rows eqs rep o i c (x ∷ a) h zero l = ((h x (inl refl)).0, eval-row rows eqs rep o i c x (h x (inl refl)).0 ∙ ap at_row (h x (inl refl)).1)
means-choice rows eqs rep o i c (x ∷ a) h (suc v) l = means-choice rows eqs rep o i c a (λ y m. h y (inr m)) v (omega arith)

module _ (rows : List Row) (rep : ℕ → ℕ) (offset : ℕ) (ps : List Pattern) (given : List ℕ) (chosen : List Term) where
  abbrev value : ℕ → Val
  value p = eval rows rep (get_or (instances ps chosen) p term₀)

  abbrev arg_vals : List ℕ → Vals
  arg_vals l = evals rows rep (pick (instances ps chosen) l)

  -- ---- what has to stand between two rows

  abbrev Meant : ℕ → Type 0
  Meant = Means rows rep given chosen

  -- a class, or the value of a row that has been read
  abbrev pub NamedBy : Numbering → ℕ → Val → Type 0
  NamedBy s n v = ((n < length rows) × (v ≡ at_row n)) ⊎ ((q : ℕ) × Mem q s.done × (n ≡ number_at s.numbers q) × (v ≡ value q))

  abbrev Own : List ℕ → ℕ → Type 0
  Own done n = (n < length rows) ⊎ ((q : ℕ) × Mem q done × (n ≡ offset + q))

  -- the rows read stand after their arguments; a name is a class or a row's own number; one number, one value
  pub record Numbered (s : Numbering) : Type 0 where
    pub long : length s.numbers ≡ length ps
    pub read : (q : ℕ) → Mem q s.done → (q < length ps) × Ready Meant s.done (pattern_at ps q)
    pub own : (n : ℕ) (v : Val) → NamedBy s n v → Own s.done n
    pub fair : Fair (NamedBy s)

  module _ (low : (i : ℕ) → i < length rows → rep i ≤ i) (ordered : Ordered rows) (fits : length rows ≤ offset) (placed : AllPlaced 0 ps) where
    value-variable : (p v : ℕ) → p < length ps → pattern_at ps p ≡ variable v → value p ≡ eval rows rep (get_or chosen v term₀)
    unfolding instance
    value-variable p v h e = ap (eval rows rep) (instance-at ps placed chosen p h ∙ ap (instance chosen (instances ps chosen)) e)

    value-apply : (p f : ℕ) (l : List ℕ) → p < length ps → pattern_at ps p ≡ apply f l → value p ≡ settle rep f (arg_vals l) 0 rows
    unfolding instance eval
    value-apply p f l h e = ap (eval rows rep) (instance-at ps placed chosen p h ∙ ap (instance chosen (instances ps chosen)) e)

    small : Small rep (length rows) 0 rows
    small k h = (
      let e : k ≡ 0 + k = omega arith in subst (λ (x : ℕ). rep x < length rows) e (omega (arith, low k h)),
      below-rep rep (length rows) low k (omega arith) (row_at rows k).args (ordered k h),
    )

    module _ (s : Numbering) (w : Numbered s) where
      classes : (n : ℕ) → n < length rows → NamedBy s n (at_row n)
      classes n h = inl (h, refl)

      args-named : (l : List ℕ) → ((a : ℕ) → Mem a l → Mem a s.done) → Nameds (NamedBy s) (args_of s.numbers l) (arg_vals l)
      unfolding evals pick
      args-named [] h = tt
      args-named (a ∷ l) h = (inr (a, h a (inl refl), refl, refl), args-named l (λ b m. h b (inr m)))

      -- a row read has an application for a value only as its own symbol over its own arguments
      app-row : (q : ℕ) → Mem q s.done → (f : ℕ) (vs : Vals) → value q ≡ app f vs
          → (l : List ℕ) × (pattern_at ps q ≡ apply f l) × (arg_vals l ≡ vs) × ((a : ℕ) → Mem a l → Mem a s.done)
      app-row q m f vs e = go (pattern_at ps q) refl (w.read q m).1
        where
          go : (p : Pattern) → pattern_at ps q ≡ p → Ready Meant s.done p
              → (l : List ℕ) × (pattern_at ps q ≡ apply f l) × (arg_vals l ≡ vs) × ((a : ℕ) → Mem a l → Mem a s.done)
          go (variable v) x r = absurd (let z : ◌≡◌ {A = ℕ} 0 1 = cc (sym (value-variable q v (w.read q m).0 x) ∙ e, r.1) in omega arith)
          go (apply g l) x r =
              let y : (g ≡ f) × (arg_vals l ≡ vs) = settle-app rep g (arg_vals l) rows f vs (sym (value-apply q g l (w.read q m).0 x) ∙ e) in
              (l, x ∙ ap (λ (h : ℕ). apply h l) y.0, y.1, r)

      module _ (f : ℕ) (l : List ℕ) (ready : (a : ℕ) → Mem a l → Mem a s.done) where
        -- a row that the look-up finds has the value
        over-value : (q : ℕ) → Mem q s.done → is_over f (args_of s.numbers l) s.numbers (pattern_at ps q) ≡ true
            → value q ≡ settle rep f (arg_vals l) 0 rows
        unfolding is_over
        over-value q m e = go (pattern_at ps q) refl (w.read q m).1 e
          where
            go : (p : Pattern) → pattern_at ps q ≡ p → Ready Meant s.done p → is_over f (args_of s.numbers l) s.numbers p ≡ true
                → value q ≡ settle rep f (arg_vals l) 0 rows
            go (variable v) x r t = absurd (let z : ◌≡◌ {A = ℕ} 0 1 = cc in omega arith)
            go (apply g k) x r t =
                let y : (f ≡ g) × (args_of s.numbers l ≡ args_of s.numbers k) = over-true f (args_of s.numbers l) s.numbers g k t in
                let u : arg_vals k ≡ arg_vals l =
                fair-values (NamedBy s) w.fair (args_of s.numbers k) (args_of s.numbers l) (arg_vals k) (arg_vals l) (args-named k r) (args-named l ready)
                (sym y.1) in
                value-apply q g k (w.read q m).0 x ∙ rw (u, y.0) refl

        -- a value that no row read has: no name has it
        over_none : ((q : ℕ) → Mem q s.done → is_over f (args_of s.numbers l) s.numbers (pattern_at ps q) ≡ false)
            → (n : ℕ) (v : Val) → NamedBy s n v → v ≡ app f (arg_vals l) → ⊥
        over_none no_one n v (inl a) e = let z : ◌≡◌ {A = ℕ} 0 1 = cc (sym a.1 ∙ e) in omega arith
        over_none no_one n v (inr a) e = go (app-row a.0 a.1 f (arg_vals l) (sym a.3 ∙ e))
          where
            go : (k : List ℕ) × (pattern_at ps a.0 ≡ apply f k) × (arg_vals k ≡ arg_vals l) × ((b : ℕ) → Mem b k → Mem b s.done) → ⊥
            go y =
                let u : args_of s.numbers l ≡ args_of s.numbers y.0 =
                fair-numbers (NamedBy s) w.fair (args_of s.numbers l) (args_of s.numbers y.0) (arg_vals l) (arg_vals y.0) (args-named l ready)
                (args-named y.0 y.3)
                (sym y.2) in
                false-true (over-self f (args_of s.numbers l) s.numbers f y.0 refl u) (rw y.1 at (no_one a.0 a.1))

      -- the row's number names its value already, or it is the row's own and both are new
      module _ (r : ℕ) (inside : r < length ps) (unread-yet : Mem r s.done → ⊥) where
        abbrev next : Pattern → ℕ
        next p = number_of rows rep offset ps given s (offset + r) p

        abbrev Outcome : Pattern → Type 0
        Outcome p = NamedBy s (next p) (value r) ⊎ ((next p ≡ offset + r) × Fresh (NamedBy s) (next p) (value r))

        own-unused : (n : ℕ) (v : Val) → NamedBy s n v → n ≡ offset + r → ⊥
        own-unused n v nm e = go (w.own n v nm)
          where
            go : Own s.done n → ⊥
            go (inl h) = omega arith
            go (inr y) = let q : y.0 ≡ r = omega (arith, y.2) in unread-yet (rw q at y.1)

        outcome-apply : (f : ℕ) (l : List ℕ) → pattern_at ps r ≡ apply f l → ((a : ℕ) → Mem a l → Mem a s.done) → Outcome (apply f l)
        unfolding number_of
        outcome-apply f l e ready =
            go (held-settle (NamedBy s) rep (length rows) w.fair classes f args (arg_vals l) (args-named l ready) d 0 rows small)
            (met-cases ps f args s.numbers (offset + r) s.done)
          where
            args : List ℕ
            args = args_of s.numbers l

            d : ℕ
            d = met ps f (args_of s.numbers l) s.numbers (offset + r) s.done

            same-value : value r ≡ settle rep f (arg_vals l) 0 rows
            same-value = value-apply r f l inside e

            go : Alike rep (length rows) f args (arg_vals l) d 0 rows → MetCases ps f args s.numbers (offset + r) s.done → Outcome (apply f l)
            go (inl a) c = inl (inl (rw a.2 a.1, same-value ∙ a.3 ∙ ap at_row (sym a.2)))
            go (inr a) (inl c) = inl (inr (c.0, c.1, a.0 ∙ c.3, same-value ∙ sym (over-value f l ready c.0 c.1 c.2)))
            go (inr a) (inr c) =
                let q : next (apply f l) ≡ offset + r = a.0 ∙ c.0 in
                inr (
                  q,
                  record {
                    unused = λ n v nm x. own-unused n v nm (x ∙ q);
                    unmet = λ n v nm x. over_none f l ready c.1 n v nm (x ∙ same-value ∙ a.1);
                  },
                )

        outcome : (p : Pattern) → pattern_at ps r ≡ p → Ready Meant s.done p → Outcome p
        unfolding number_of
        outcome (variable v) e m = inl (inl (m.0, value-variable r v inside e ∙ m.1))
        outcome (apply f l) e ready = outcome-apply f l e ready

        abbrev new : Numbering
        new = step rows rep offset ps given s r

        -- the rows read before keep their numbers
        step-old : (q : ℕ) → Mem q s.done → number_at new.numbers q ≡ number_at s.numbers q
        unfolding step
        step-old q m = get_or-set_other s.numbers r q (next (pattern_at ps r)) 0 (λ e. unread-yet (rw e at m))

        step-new : number_at new.numbers r ≡ next (pattern_at ps r)
        unfolding step
        step-new = get_or-set_same s.numbers r (next (pattern_at ps r)) 0 (omega (arith, w.long))

        step_back : (n : ℕ) (v : Val) → NamedBy new n v → NamedBy s n v ⊎ ((n ≡ next (pattern_at ps r)) × (v ≡ value r))
        unfolding step
        step_back n v (inl a) = inl (inl a)
        step_back n v (inr a) = ⊎_elim
            (λ m. inl (inr (a.0, m, a.2 ∙ step-old a.0 m, a.3)))
            (λ m. inr (here (⊎_elim (λ e. e) (λ z. absurd z) m)))
            (mem-cases a.0 s.done (r ∷ []) a.1)
          where
            here : a.0 ≡ r → (n ≡ next (pattern_at ps r)) × (v ≡ value r)
            here e = (a.2 ∙ ap (number_at new.numbers) e ∙ step-new, a.3 ∙ ap value e)

        pub numbered_step : Ready Meant s.done (pattern_at ps r) → Numbered new
        unfolding step
        numbered_step ready =
            record {
              long = length-set s.numbers r (next (pattern_at ps r)) ∙ w.long;
              read = λ q m. ⊎_elim (λ a. old q a) (λ a. last q a) (mem-cases q s.done (r ∷ []) m);
              own = λ n v nm. owned n v (step_back n v nm) o;
              fair = fair-more (NamedBy s) w.fair (NamedBy new) (next (pattern_at ps r)) (value r) step_back (⊎_elim inl (λ y. inr y.1) o);
            }
          where
            o : Outcome (pattern_at ps r)
            o = outcome (pattern_at ps r) refl ready

            old : (q : ℕ) → Mem q s.done → (q < length ps) × Ready Meant (s.done ++ (r ∷ [])) (pattern_at ps q)
            old q m = ((w.read q m).0, ready-more Meant s.done (r ∷ []) (pattern_at ps q) (w.read q m).1)

            last : (q : ℕ) → Mem q (r ∷ []) → (q < length ps) × Ready Meant (s.done ++ (r ∷ [])) (pattern_at ps q)
            last q (inl e) = rw e (inside, ready-more Meant s.done (r ∷ []) (pattern_at ps r) ready)
            last q (inr z) = absurd z

            wider : (n : ℕ) → Own s.done n → Own (s.done ++ (r ∷ [])) n
            wider n (inl h) = inl h
            wider n (inr y) = inr (y.0, mem-front y.0 s.done (r ∷ []) y.1, y.2)

            owned : (n : ℕ) (v : Val) → NamedBy s n v ⊎ ((n ≡ next (pattern_at ps r)) × (v ≡ value r)) → Outcome (pattern_at ps r) → Own (s.done ++ (r ∷ [])) n
            owned n v (inl a) y = wider n (w.own n v a)
            owned n v (inr a) (inl y) = rw a.0 (wider _ (w.own _ _ y))
            owned n v (inr a) (inr y) = inr (r, mem-back r s.done (r ∷ []) (inl refl), a.0 ∙ y.0)

    -- ---- any order in which each row stands once, after its arguments

    numbered-order : (s : Numbering) (rs : List ℕ) → Numbered s → Orderly Meant ps s.done rs → Numbered (number rows rep offset ps given s rs)
    unfolding number step
    numbered-order s [] w o = w
    numbered-order s (r ∷ rs) w o =
        numbered-order (step rows rep offset ps given s r) rs (numbered_step s w r o.0.0 o.0.1 o.0.2) o.1

    -- ---- the stages

    numbered-unread : Numbered (unread rows rep offset ps given)
    numbered-unread =
        record {
          long = length-replicate (length ps) 0;
          read = λ q m. absurd m;
          own = λ n v nm. ⊎_elim (λ a. inl a.0) (λ a. absurd a.1) nm;
          fair = alone;
        }
      where
        alone : Fair (NamedBy (unread rows rep offset ps given))
        alone n m v w (inl a) (inl b) = (λ e. a.1 ∙ ap at_row e ∙ sym b.1, λ e. cc (a.1, b.1, e))
        alone n m v w (inl a) (inr b) = absurd b.1
        alone n m v w (inr a) b = absurd a.1

    pub numbered-stages : (k : ℕ) → ((v : ℕ) → v < k → Meant v) → Numbered (stages rows rep offset ps given k)
    unfolding stages
    numbered-stages zero means = numbered-order (unread rows rep offset ps given) (rows_at 0 0 (levels ps)) numbered-unread (level-orderly Meant ps placed 0 [] means (none_read ps))
    numbered-stages (suc k) means =
        numbered-order (stages rows rep offset ps given k) (rows_at (suc k) 0 (levels ps)) (numbered-stages k (λ v h. means v (omega arith)))
        (level-orderly Meant ps placed (suc k) (stages rows rep offset ps given k).done means (stages-read rows rep offset ps given k))

-- ---- the laws

module _ (rows : List Row) (eqs : List (ℕ × ℕ)) (rep : ℕ → ℕ) (ordered : Ordered rows) (within : Within (length rows) eqs) (closed : Closed rows eqs rep)
    (offset : ℕ) (fits : length rows ≤ offset) (ps : List Pattern) (placed : AllPlaced 0 ps) (given : List ℕ) (chosen : List Term) where
  abbrev inst : ℕ → Term
  inst p = get_or (instances ps chosen) p term₀

  -- the rows of levels 0 to k, where the first k variables have a meaning
  module _ (k : ℕ) (means : (v : ℕ) → v < k → Means rows rep given chosen v) where
    abbrev stage_num : ℕ → ℕ
    stage_num p = number_at (stages rows rep offset ps given k).numbers p

    abbrev StageNamed : ℕ → Val → Type 0
    StageNamed = NamedBy rows rep offset ps given chosen (stages rows rep offset ps given k)

    stage-name : (p : ℕ) → p < length ps → level_at ps p ≤ k → StageNamed (stage_num p) (eval rows rep (inst p))
    stage-name p h l = inr (p, (stages-read rows rep offset ps given k p).1 (h, omega arith), refl, refl)

    stage-fair : Fair StageNamed
    stage-fair = (numbered-stages rows rep offset ps given chosen closed.low ordered fits placed k means).fair

    pub equal-stage : (p q : ℕ) → p < length ps → q < length ps → level_at ps p ≤ k → level_at ps q ≤ k
        → Equal rows eqs (inst p) (inst q) ↔ (stage_num p ≡ stage_num q)
    equal-stage p q hp hq lp lq =
        let f : (stage_num p ≡ stage_num q) ↔ (eval rows rep (inst p) ≡ eval rows rep (inst q)) =
        stage-fair (stage_num p) (stage_num q) (eval rows rep (inst p)) (eval rows rep (inst q)) (stage-name p hp lp) (stage-name q hq lq) in
        let m : Equal rows eqs (inst p) (inst q) ↔ (eval rows rep (inst p) ≡ eval rows rep (inst q)) = meaning rows eqs rep ordered within closed (inst p) (inst q) in
        (λ d. f.1 (m.0 d), λ e. m.1 (f.0 e))

    pub row-stage : (p r : ℕ) → p < length ps → r < length rows → level_at ps p ≤ k → Equal rows eqs (inst p) (term_at rows r) ↔ (stage_num p ≡ rep r)
    row-stage p r hp hr lp =
        let e : eval rows rep (term_at rows r) ≡ at_row (rep r) = eval-row rows eqs rep ordered within closed r hr in
        let f : (stage_num p ≡ rep r) ↔ (eval rows rep (inst p) ≡ at_row (rep r)) =
        stage-fair (stage_num p) (rep r) (eval rows rep (inst p)) (at_row (rep r)) (stage-name p hp lp) (inl (omega (arith, closed.low r hr), refl)) in
        let m : Equal rows eqs (inst p) (term_at rows r) ↔ (eval rows rep (inst p) ≡ eval rows rep (term_at rows r)) =
        meaning rows eqs rep ordered within closed (inst p) (term_at rows r) in
        (λ d. f.1 (m.0 d ∙ e), λ w. m.1 (f.0 w ∙ sym e))

  -- all rows, where every variable has a meaning
  module _ (means : (v : ℕ) → v < variables ps → Means rows rep given chosen v) where
    abbrev num : ℕ → ℕ
    num p = number_at (numbers rows rep offset ps given) p

    -- two instances are equal just where their numbers are
    pub equal-numbers : (p q : ℕ) → p < length ps → q < length ps → Equal rows eqs (inst p) (inst q) ↔ (num p ≡ num q)
    unfolding numbers
    equal-numbers p q hp hq = equal-stage (variables ps) means p q hp hq (levels-most ps p) (levels-most ps q)

    -- an instance is equal to a context row just where its number is the row's representative
    pub equal-row : (p r : ℕ) → p < length ps → r < length rows → Equal rows eqs (inst p) (term_at rows r) ↔ (num p ≡ rep r)
    unfolding numbers
    equal-row p r hp hr = row-stage (variables ps) means p r hp hr (levels-most ps p)

-- ---- literals

module _ (c : Context) (rep : ℕ → ℕ) (ordered : Ordered c.rows) (within : Within (length c.rows) (equations c)) (closed : Closed c.rows (equations c) rep)
    (offset : ℕ) (fits : length c.rows ≤ offset) (ps : List Pattern) (placed : AllPlaced 0 ps) (given : List ℕ) (chosen : List Term)
    (means : (v : ℕ) → v < variables ps → Means c.rows rep given chosen v) where
  abbrev inst_in : ℕ → Term
  inst_in p = get_or (instances ps chosen) p term₀

  abbrev nums : List ℕ
  nums = numbers c.rows rep offset ps given

  module _ (differs : ℕ → ℕ → Bool)
      (promise : (p q : ℕ) → p < length ps → q < length ps → Differ c (inst_in p) (inst_in q) ↔ (differs (number_at nums p) (number_at nums q) ≡ true)) where
    pub holds-numbers : (l : Literal) → Names (length ps) l → Holds c (instances ps chosen) l ↔ (holds_by differs nums l ≡ true)
    unfolding holds_by
    holds-numbers (equal p q) h =
        let e : Equal c.rows (equations c) (inst_in p) (inst_in q) ↔ (number_at nums p ≡ number_at nums q) =
        equal-numbers c.rows (equations c) rep ordered within closed offset fits ps placed given chosen means p q h.0 h.1 in
        (λ d. eq-eqb (number_at nums p) (number_at nums q) (e.0 d), λ t. e.1 (eqb-true (number_at nums p) (number_at nums q) t))
    holds-numbers (unequal p q) h = promise p q h.0 h.1

    pub all-hold-numbers : (ls : List Literal) → NamesAll (length ps) ls → AllHold c (instances ps chosen) ls ↔ (all_hold_by differs nums ls ≡ true)
    unfolding all_hold_by
    all-hold-numbers [] h = (λ _. refl, λ _. tt)
    all-hold-numbers (l ∷ ls) h =
        let a : Bool = holds_by differs nums l in
        let b : Bool = all_hold_by differs nums ls in (
          λ w. and_both a b ((holds-numbers l h.0).0 w.0) ((all-hold-numbers ls h.1).0 w.1),
          λ e. ((holds-numbers l h.0).1 (and-true-left a b e), (all-hold-numbers ls h.1).1 (and-true-right a b e)),
        )
