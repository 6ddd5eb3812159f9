-- The values of pattern rows, by any table of representatives: it may be closed or not. A variable's value is the row given for it, and that of a symbol over
-- values is looked up in the table. A number from the offset on depends on the order of reading, and a value does not; but the numbers of the rows read,
-- with the classes, name their values, one number for one value.
--     value                          the value of a pattern row
--     number-equal, number-class     two numbers are one, and a number is a class, just where the values are so
--     marks, mark-at                 a term for each row of an assignment, to tell them apart
--     same-value                     rows whose terms are the same under two assignments have one value
-- Assumes nothing.
use mathlib.Core.Bool.{true, false}
use mathlib.Core.List.{List, [], ◌∷◌, ◌++◌, map}
use mathlib.Core.Path.{◌≡◌, refl, ap, ap₂, sym, ◌∙◌}
use mathlib.Core.Logic.{◌⊎◌, inl, inr, ⊎_elim, ◌↔◌}
use Prim.Native.Nat.{ℕ, zero, suc, ◌+◌, ◌≤◌, ◌<◌}
use native.Mathlib.Omega.{arith}
use lib.ListN.{length, get_or, length-set, length-replicate}
use lib.Seq.{get_or-set_same, get_or-set_other}
use Rattle.meaning.specs.Context.{Row, row_at, Term, node, stop, term₀, pick}
use Rattle.meaning.specs.Rules.{Pattern, variable, apply, variables, instance, instances, Below}
use Rattle.meaning.specs.Formed.{AllPlaced}
use Rattle.meaning.specs.Values.{levels, rows_at, pattern_at, number_at, args_of, Numbering, is_over, met, number_of, step, number, unread, stages, numbers}
use Rattle.meaning.proofs.Logic.{false-true}
use Rattle.meaning.proofs.Model.{Val, Vals, at_row, app, vstop, vmore, settle}
use Rattle.meaning.proofs.Meaning.{answer, Answer}
use Rattle.meaning.proofs.Box.{Mem, mem_below}
use Rattle.meaning.proofs.Prefix.{levels-most}
use Rattle.meaning.proofs.Levels.{mem-front, mem-back, mem-cases, args-before, instance-at, Ready, ready-more, Orderly, level-orderly, none_read, stages-read}
use Rattle.meaning.proofs.Naming.{Fair, Nameds, fair-values, fair-numbers, Fresh, fair-more, Small, Alike, held-settle, over-true, over-self, MetCases, met-cases}

-- ---- the values of pattern rows

-- the values at some rows
unfoldable pub values_at : (ℕ → Val) → List ℕ → Vals
values_at at [] = vstop
values_at at (a ∷ l) = vmore (at a) (values_at at l)

values_same : (at other : ℕ → Val) (l : List ℕ) → ((a : ℕ) → Mem a l → at a ≡ other a) → values_at at l ≡ values_at other l
unfolding values_at
values_same at other [] f = refl
values_same at other (a ∷ l) f = ap₂ vmore (f a (inl refl)) (values_same at other l (λ b m. f b (inr m)))

module _ (rows : List Row) (rep : ℕ → ℕ) (ps : List Pattern) (given : List ℕ) where
  unfoldable pub value_by : (ℕ → Val) → Pattern → Val
  value_by at (variable v) = at_row (number_at given v)
  value_by at (apply f l) = settle rep f (values_at at l) 0 rows

  -- by n rows in a chain of arguments
  unfoldable pub value_in : ℕ → ℕ → Val
  value_in zero p = at_row 0
  value_in (suc n) p = value_by (value_in n) (pattern_at ps p)

  unfoldable pub value : ℕ → Val
  value p = value_in (suc p) p

  abbrev arg_vals : List ℕ → Vals
  arg_vals l = values_at value l

  module _ (placed : AllPlaced 0 ps) where
    by-same : (at other : ℕ → Val) (p : ℕ) → p < length ps → ((a : ℕ) → a < p → at a ≡ other a) → value_by at (pattern_at ps p) ≡ value_by other (pattern_at ps p)
    unfolding value_by
    by-same at other p h f = go (pattern_at ps p) refl
      where
        go : (q : Pattern) → pattern_at ps p ≡ q → value_by at q ≡ value_by other q
        go (variable v) e = refl
        go (apply g l) e =
            ap (λ (vs : Vals). settle rep g vs 0 rows) (values_same at other l (λ a m. f a (mem_below p a l (args-before ps placed p g l h e) m)))

    value-enough : (n m p : ℕ) → p < n → p < m → p < length ps → value_in n p ≡ value_in m p
    unfolding value_in
    value-enough zero m p l k h = absurd (omega arith)
    value-enough (suc n) zero p l k h = absurd (omega arith)
    value-enough (suc n) (suc m) p l k h =
        by-same (value_in n) (value_in m) p h (λ a b. value-enough n m a (omega arith) (omega arith) (omega arith))

    value-at : (p : ℕ) → p < length ps → value p ≡ value_by value (pattern_at ps p)
    unfolding value value_in
    value-at p h = by-same (value_in p) value p h (λ a b. value-enough p (suc a) a b (omega arith) (omega arith))

    value-variable : (p v : ℕ) → p < length ps → pattern_at ps p ≡ variable v → value p ≡ at_row (number_at given v)
    unfolding value_by
    value-variable p v h e = value-at p h ∙ ap (value_by value) e

    value-apply : (p f : ℕ) (l : List ℕ) → p < length ps → pattern_at ps p ≡ apply f l → value p ≡ settle rep f (arg_vals l) 0 rows
    unfolding value_by
    value-apply p f l h e = value-at p h ∙ ap (value_by value) e

-- ---- the numbers name the values

-- an application outside the table shows its symbol and its arguments
settle-app : (rep : ℕ → ℕ) (g : ℕ) (ws : Vals) (rows : List Row) (f : ℕ) (vs : Vals) → settle rep g ws 0 rows ≡ app f vs → (g ≡ f) × (ws ≡ vs)
settle-app rep g ws rows f vs e = go (answer rep g ws 0 rows)
  where
    go : Answer rep g ws 0 rows → (g ≡ f) × (ws ≡ vs)
    go (inl a) = absurd (let z : ◌≡◌ {A = ℕ} 0 1 = cc (a.3, e) in omega arith)
    go (inr a) = (cc (a.0, e), cc (a.0, e))

below-map : (rep : ℕ → ℕ) (n : ℕ) → ((i : ℕ) → rep i < n) → (l : List ℕ) → Below n (map rep l)
below-map rep n low [] = tt
below-map rep n low (a ∷ l) = (low a, below-map rep n low l)

module _ (rows : List Row) (rep : ℕ → ℕ) (offset : ℕ) (low : (i : ℕ) → rep i < offset) (ps : List Pattern) (placed : AllPlaced 0 ps) (given : List ℕ) where
  abbrev val : ℕ → Val
  val = value rows rep ps given

  abbrev vals : List ℕ → Vals
  vals l = values_at val l

  -- what is given for a variable is a class
  abbrev Meant : ℕ → Type 0
  Meant v = number_at given v < offset

  -- a class, or the value of a row that has been read
  abbrev NamedBy : Numbering → ℕ → Val → Type 0
  NamedBy s n v = ((n < offset) × (v ≡ at_row n)) ⊎ ((q : ℕ) × Mem q s.done × (n ≡ number_at s.numbers q) × (v ≡ val q))

  abbrev Own : List ℕ → ℕ → Type 0
  Own done n = (n < offset) ⊎ ((q : ℕ) × Mem q done × (n ≡ offset + q))

  -- the rows read stand after their arguments; a name is a class or a row's own number; one number, one value
  record Valued (s : Numbering) : Type 0 where
    pub long : length s.numbers ≡ length ps
    pub read : (q : ℕ) → Mem q s.done → (q < length ps) × Ready Meant s.done (pattern_at ps q)
    pub own : (n : ℕ) (v : Val) → NamedBy s n v → Own s.done n
    pub fair : Fair (NamedBy s)

  small : Small rep offset 0 rows
  small k h = (low (0 + k), below-map rep offset low (row_at rows k).args)

  module _ (s : Numbering) (w : Valued s) where
    args-named : (l : List ℕ) → ((a : ℕ) → Mem a l → Mem a s.done) → Nameds (NamedBy s) (args_of s.numbers l) (vals l)
    unfolding values_at
    args-named [] h = tt
    args-named (a ∷ l) h = (inr (a, h a (inl refl), refl, refl), args-named l (λ b m. h b (inr m)))

    -- a row read has an application for a value only as its own symbol over its own arguments
    app-row : (q : ℕ) → Mem q s.done → (f : ℕ) (vs : Vals) → val q ≡ app f vs
        → (l : List ℕ) × (pattern_at ps q ≡ apply f l) × (vals l ≡ vs) × ((a : ℕ) → Mem a l → Mem a s.done)
    app-row q m f vs e = go (pattern_at ps q) refl (w.read q m).1
      where
        go : (p : Pattern) → pattern_at ps q ≡ p → Ready Meant s.done p
            → (l : List ℕ) × (pattern_at ps q ≡ apply f l) × (vals l ≡ vs) × ((a : ℕ) → Mem a l → Mem a s.done)
        go (variable v) x r = absurd (let z : ◌≡◌ {A = ℕ} 0 1 = cc (sym (value-variable rows rep ps given placed q v (w.read q m).0 x) ∙ e) in omega arith)
        go (apply g l) x r =
            let y : (g ≡ f) × (vals l ≡ vs) = settle-app rep g (vals l) rows f vs (sym (value-apply rows rep ps given placed q g l (w.read q m).0 x) ∙ e) in
            (l, x ∙ ap (λ (h : ℕ). apply h l) y.0, y.1, r)

    module _ (f : ℕ) (l : List ℕ) (ready : (a : ℕ) → Mem a l → Mem a s.done) where
      -- a row that the look-up finds has the value
      over-value : (q : ℕ) → Mem q s.done → is_over f (args_of s.numbers l) s.numbers (pattern_at ps q) ≡ true → val q ≡ settle rep f (vals l) 0 rows
      unfolding is_over
      over-value q m e = go (pattern_at ps q) refl (w.read q m).1 e
        where
          go : (p : Pattern) → pattern_at ps q ≡ p → Ready Meant s.done p → is_over f (args_of s.numbers l) s.numbers p ≡ true
              → val q ≡ settle rep f (vals l) 0 rows
          go (variable v) x r t = absurd (let z : ◌≡◌ {A = ℕ} 0 1 = cc in omega arith)
          go (apply g k) x r t =
              let y : (f ≡ g) × (args_of s.numbers l ≡ args_of s.numbers k) = over-true f (args_of s.numbers l) s.numbers g k t in
              let u : vals k ≡ vals l =
              fair-values (NamedBy s) w.fair (args_of s.numbers k) (args_of s.numbers l) (vals k) (vals l) (args-named k r) (args-named l ready)
              (sym y.1) in
              value-apply rows rep ps given placed q g k (w.read q m).0 x ∙ rw (u, y.0) refl

      -- a value that no row read has: no name has it
      over_none : ((q : ℕ) → Mem q s.done → is_over f (args_of s.numbers l) s.numbers (pattern_at ps q) ≡ false)
          → (n : ℕ) (v : Val) → NamedBy s n v → v ≡ app f (vals l) → ⊥
      over_none no_one n v (inl a) e = let z : ◌≡◌ {A = ℕ} 0 1 = cc (sym a.1 ∙ e) in omega arith
      over_none no_one n v (inr a) e = go (app-row a.0 a.1 f (vals l) (sym a.3 ∙ e))
        where
          go : (k : List ℕ) × (pattern_at ps a.0 ≡ apply f k) × (vals k ≡ vals l) × ((b : ℕ) → Mem b k → Mem b s.done) → ⊥
          go y =
              let u : args_of s.numbers l ≡ args_of s.numbers y.0 =
              fair-numbers (NamedBy s) w.fair (args_of s.numbers l) (args_of s.numbers y.0) (vals l) (vals y.0) (args-named l ready)
              (args-named y.0 y.3)
              (sym y.2) in
              false-true (over-self f (args_of s.numbers l) s.numbers f y.0 refl u) (rw y.1 at (no_one a.0 a.1))

    -- the row's number names its value already, or it is the row's own and both are new
    module _ (r : ℕ) (inside : r < length ps) (unread-yet : Mem r s.done → ⊥) where
      abbrev next : Pattern → ℕ
      next p = number_of rows rep offset ps given s (offset + r) p

      abbrev Outcome : Pattern → Type 0
      Outcome p = NamedBy s (next p) (val r) ⊎ ((next p ≡ offset + r) × Fresh (NamedBy s) (next p) (val r))

      own-unused : (n : ℕ) (v : Val) → NamedBy s n v → n ≡ offset + r → ⊥
      own-unused n v nm e = go (w.own n v nm)
        where
          go : Own s.done n → ⊥
          go (inl h) = omega arith
          go (inr y) = let q : y.0 ≡ r = omega (arith, y.2) in unread-yet (rw q at y.1)

      outcome-apply : (f : ℕ) (l : List ℕ) → pattern_at ps r ≡ apply f l → ((a : ℕ) → Mem a l → Mem a s.done) → Outcome (apply f l)
      unfolding number_of
      outcome-apply f l e ready =
          go (held-settle (NamedBy s) rep offset w.fair (λ n h. inl (h, refl)) f args (vals l) (args-named l ready) d 0 rows small)
          (met-cases ps f args s.numbers (offset + r) s.done)
        where
          args : List ℕ
          args = args_of s.numbers l

          d : ℕ
          d = met ps f (args_of s.numbers l) s.numbers (offset + r) s.done

          same : val r ≡ settle rep f (vals l) 0 rows
          same = value-apply rows rep ps given placed r f l inside e

          go : Alike rep offset f args (vals l) d 0 rows → MetCases ps f args s.numbers (offset + r) s.done → Outcome (apply f l)
          go (inl a) c = inl (inl (rw a.2 a.1, same ∙ a.3 ∙ ap at_row (sym a.2)))
          go (inr a) (inl c) = inl (inr (c.0, c.1, a.0 ∙ c.3, same ∙ sym (over-value f l ready c.0 c.1 c.2)))
          go (inr a) (inr c) =
              let q : next (apply f l) ≡ offset + r = a.0 ∙ c.0 in
              inr (
                q,
                record {
                  unused = λ n v nm x. own-unused n v nm (x ∙ q);
                  unmet = λ n v nm x. over_none f l ready c.1 n v nm (x ∙ same ∙ a.1);
                },
              )

      outcome : (p : Pattern) → pattern_at ps r ≡ p → Ready Meant s.done p → Outcome p
      unfolding number_of
      outcome (variable v) e m = inl (inl (m, value-variable rows rep ps given placed r v inside e))
      outcome (apply f l) e ready = outcome-apply f l e ready

      abbrev new : Numbering
      new = step rows rep offset ps given s r

      -- the rows read before keep their numbers
      step-old : (q : ℕ) → Mem q s.done → number_at new.numbers q ≡ number_at s.numbers q
      unfolding step
      step-old q m = get_or-set_other s.numbers r q (next (pattern_at ps r)) 0 (λ e. unread-yet (rw e at m))

      step-new : number_at new.numbers r ≡ next (pattern_at ps r)
      unfolding step
      step-new = get_or-set_same s.numbers r (next (pattern_at ps r)) 0 (omega (arith, w.long))

      step_back : (n : ℕ) (v : Val) → NamedBy new n v → NamedBy s n v ⊎ ((n ≡ next (pattern_at ps r)) × (v ≡ val r))
      unfolding step
      step_back n v (inl a) = inl (inl a)
      step_back n v (inr a) = ⊎_elim
          (λ m. inl (inr (a.0, m, a.2 ∙ step-old a.0 m, a.3)))
          (λ m. inr (here (⊎_elim (λ e. e) (λ z. absurd z) m)))
          (mem-cases a.0 s.done (r ∷ []) a.1)
        where
          here : a.0 ≡ r → (n ≡ next (pattern_at ps r)) × (v ≡ val r)
          here e = (a.2 ∙ ap (number_at new.numbers) e ∙ step-new, a.3 ∙ ap val e)

      valued-step : Ready Meant s.done (pattern_at ps r) → Valued new
      unfolding step
      valued-step ready =
          record {
            long = length-set s.numbers r (next (pattern_at ps r)) ∙ w.long;
            read = λ q m. ⊎_elim (λ a. old q a) (λ a. last q a) (mem-cases q s.done (r ∷ []) m);
            own = λ n v nm. owned n v (step_back n v nm) o;
            fair = fair-more (NamedBy s) w.fair (NamedBy new) (next (pattern_at ps r)) (val r) step_back (⊎_elim inl (λ y. inr y.1) o);
          }
        where
          o : Outcome (pattern_at ps r)
          o = outcome (pattern_at ps r) refl ready

          old : (q : ℕ) → Mem q s.done → (q < length ps) × Ready Meant (s.done ++ (r ∷ [])) (pattern_at ps q)
          old q m = ((w.read q m).0, ready-more Meant s.done (r ∷ []) (pattern_at ps q) (w.read q m).1)

          last : (q : ℕ) → Mem q (r ∷ []) → (q < length ps) × Ready Meant (s.done ++ (r ∷ [])) (pattern_at ps q)
          last q (inl e) = rw e (inside, ready-more Meant s.done (r ∷ []) (pattern_at ps r) ready)
          last q (inr z) = absurd z

          wider : (n : ℕ) → Own s.done n → Own (s.done ++ (r ∷ [])) n
          wider n (inl h) = inl h
          wider n (inr y) = inr (y.0, mem-front y.0 s.done (r ∷ []) y.1, y.2)

          owned : (n : ℕ) (v : Val) → NamedBy s n v ⊎ ((n ≡ next (pattern_at ps r)) × (v ≡ val r)) → Outcome (pattern_at ps r) → Own (s.done ++ (r ∷ [])) n
          owned n v (inl a) y = wider n (w.own n v a)
          owned n v (inr a) (inl y) = rw a.0 (wider _ (w.own _ _ y))
          owned n v (inr a) (inr y) = inr (r, mem-back r s.done (r ∷ []) (inl refl), a.0 ∙ y.0)

  valued-order : (s : Numbering) (rs : List ℕ) → Valued s → Orderly Meant ps s.done rs → Valued (number rows rep offset ps given s rs)
  unfolding number step
  valued-order s [] w o = w
  valued-order s (r ∷ rs) w o = valued-order (step rows rep offset ps given s r) rs (valued-step s w r o.0.0 o.0.1 o.0.2) o.1

  valued-unread : Valued (unread rows rep offset ps given)
  valued-unread =
      record {
        long = length-replicate (length ps) 0;
        read = λ q m. absurd m;
        own = λ n v nm. ⊎_elim (λ a. inl a.0) (λ a. absurd a.1) nm;
        fair = alone;
      }
    where
      alone : Fair (NamedBy (unread rows rep offset ps given))
      alone n m v w (inl a) (inl b) = (λ e. a.1 ∙ ap at_row e ∙ sym b.1, λ e. cc (a.1, b.1, e))
      alone n m v w (inl a) (inr b) = absurd b.1
      alone n m v w (inr a) b = absurd a.1

  valued-stages : (k : ℕ) → ((v : ℕ) → v < k → Meant v) → Valued (stages rows rep offset ps given k)
  unfolding stages
  valued-stages zero means = valued-order (unread rows rep offset ps given) (rows_at 0 0 (levels ps)) valued-unread (level-orderly Meant ps placed 0 [] means (none_read ps))
  valued-stages (suc k) means =
      valued-order (stages rows rep offset ps given k) (rows_at (suc k) 0 (levels ps)) (valued-stages k (λ v h. means v (omega arith)))
      (level-orderly Meant ps placed (suc k) (stages rows rep offset ps given k).done means (stages-read rows rep offset ps given k))

  -- ---- all rows, where every variable has a class

  abbrev num : ℕ → ℕ
  num p = number_at (numbers rows rep offset ps given) p

  module _ (means : (v : ℕ) → v < variables ps → Meant v) where
    abbrev Named : ℕ → Val → Type 0
    Named = NamedBy (stages rows rep offset ps given (variables ps))

    fair-all : Fair Named
    fair-all = (valued-stages (variables ps) means).fair

    row_named : (p : ℕ) → p < length ps → Named (num p) (val p)
    unfolding numbers
    row_named p h =
        let l : get_or (levels ps) p 0 ≤ variables ps = levels-most ps p in
        inr (p, (stages-read rows rep offset ps given (variables ps) p).1 (h, omega arith), refl, refl)

    pub number-equal : (p q : ℕ) → p < length ps → q < length ps → (num p ≡ num q) ↔ (val p ≡ val q)
    number-equal p q hp hq = fair-all (num p) (num q) (val p) (val q) (row_named p hp) (row_named q hq)

    pub number-class : (p c : ℕ) → p < length ps → c < offset → (num p ≡ c) ↔ (val p ≡ at_row c)
    number-class p c hp hc = fair-all (num p) c (val p) (at_row c) (row_named p hp) (inl (hc, refl))

-- ---- rows whose terms are the same under two assignments

-- a term for each row of an assignment, to tell them apart
abbrev pub marks : List ℕ → List Term
marks a = map (λ x. node x stop) a

pub mark-at : (a : List ℕ) (v : ℕ) → get_or (marks a) v term₀ ≡ node (number_at a v) stop
mark-at [] v = refl
mark-at (x ∷ a) zero = refl
mark-at (x ∷ a) (suc v) = mark-at a v

pick_same : (ts us : List Term) (l : List ℕ) → pick ts l ≡ pick us l → (a : ℕ) → Mem a l → get_or ts a term₀ ≡ get_or us a term₀
unfolding pick
pick_same ts us [] e a m = absurd m
pick_same ts us (b ∷ l) e a (inl q) = let h : get_or ts b term₀ ≡ get_or us b term₀ = cc in rw q h
pick_same ts us (b ∷ l) e a (inr m) = let h : pick ts l ≡ pick us l = cc in pick_same ts us l h a m

module _ (rows : List Row) (rep : ℕ → ℕ) (ps : List Pattern) (placed : AllPlaced 0 ps) (given other : List ℕ) where
  abbrev marked : List ℕ → ℕ → Term
  marked a p = get_or (instances ps (marks a)) p term₀

  abbrev Same : ℕ → Type 0
  Same p = marked given p ≡ marked other p

  same_by : (p : ℕ) → p < length ps → Same p
      → instance (marks given) (instances ps (marks given)) (pattern_at ps p) ≡ instance (marks other) (instances ps (marks other)) (pattern_at ps p)
  same_by p h e = sym (instance-at ps placed (marks given) p h) ∙ e ∙ instance-at ps placed (marks other) p h

  same_in : (n p : ℕ) → p < length ps → Same p → value_in rows rep ps given n p ≡ value_in rows rep ps other n p
  unfolding value_in value_by instance
  same_in zero p h e = refl
  same_in (suc n) p h e = go (pattern_at ps p) refl (same_by p h e) (same_in n)
    where
      go : (q : Pattern) → pattern_at ps p ≡ q
          → instance (marks given) (instances ps (marks given)) q ≡ instance (marks other) (instances ps (marks other)) q
          → ((a : ℕ) → a < length ps → Same a → value_in rows rep ps given n a ≡ value_in rows rep ps other n a)
          → value_by rows rep ps given (value_in rows rep ps given n) q ≡ value_by rows rep ps other (value_in rows rep ps other n) q
      go (variable v) x s ih =
          let z : node (number_at given v) stop ≡ node (number_at other v) stop = sym (mark-at given v) ∙ s ∙ mark-at other v in
          let y : number_at given v ≡ number_at other v = cc in
          ap at_row y
      go (apply f l) x s ih =
          let y : pick (instances ps (marks given)) l ≡ pick (instances ps (marks other)) l = cc in
          ap (λ (vs : Vals). settle rep f vs 0 rows)
          (values_same (value_in rows rep ps given n) (value_in rows rep ps other n) l
          (λ a m. ih a (omega (arith, mem_below p a l (args-before ps placed p f l h x) m)) (pick_same (instances ps (marks given)) (instances ps (marks other)) l y a m)))

  pub same-value : (p : ℕ) → p < length ps → Same p → value rows rep ps given p ≡ value rows rep ps other p
  unfolding value
  same-value p h e = same_in (suc p) p h e
