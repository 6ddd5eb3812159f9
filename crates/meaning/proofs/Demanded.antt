-- The computed normaliser meets demand 3.
--     clear_of       a context that does not contradict itself has no clash
--     tells-one      what the normaliser gives for a text is its normal text
--     keeps-meaning  there are normal texts, and they agree just where contexts are alike, are their own normal texts, and keep every rule's reply
-- Assumes nothing.
use mathlib.Core.List.{List, ◌++◌, map}
use mathlib.Core.Path.{◌≡◌, refl, ap, sym, ◌∙◌, subst, subst₂}
use mathlib.Core.Logic.{◌↔◌}
use Prim.Native.Nat.{ℕ}
use native.Mathlib.Omega.{arith}
use lib.ListN.{length, length-map}
use Rattle.meaning.specs.Context.{Context, differences}
use Rattle.meaning.specs.Equality.{Consistent, Representatives}
use Rattle.meaning.specs.Rules.{Clause}
use Rattle.meaning.specs.Text.{narrow, Read, Reading, taken, read}
use Rattle.meaning.specs.Writing.{context_text, normal_of, lower_first}
use Rattle.meaning.specs.Replies.{Reply, Judged, RepliesTo, Replies}
use Rattle.meaning.specs.ByTable.{Clashing, first, clear, clash_of}
use Rattle.meaning.specs.Formed.{Fit}
use Rattle.meaning.specs.Demands.{Gives, Alike, Tells, Bare, KeepsMeaning}
use Rattle.meaning.proofs.Computed.{rep_of, normalise}
use Rattle.meaning.proofs.Promised.{closing-represents}
use Rattle.meaning.proofs.Apartness.{clash-first}
use Rattle.meaning.proofs.Taken.{read-formed}
use Rattle.meaning.proofs.ReadBack.{holding, Writable, read-writable, text-taken}
use Rattle.meaning.proofs.ClauseLines.{rules-alike, clause-alike}
use Rattle.meaning.proofs.Sorted.{length-sorted}
use Rattle.meaning.proofs.Joins.{length-joins, normal-equations, normal-differences, normal-rows}
use Rattle.meaning.proofs.Normals.{normal-fit, normal-represents, normal-twice, normal-consistent}
use Rattle.meaning.proofs.Agreement.{normal-agree, normal-one}
use Rattle.meaning.proofs.Rulings.{normal-judged}
use Rattle.meaning.proofs.Given.{normal_text_of, normalise-gives, normalise-one}

pub clear_of : (c : Context) → Fit c → Consistent c → clash_of (rep_of c) (differences c) ≡ clear
clear_of c fit free = go (clash_of (rep_of c) (differences c)) refl
  where
    go : (x : Clashing) → clash_of (rep_of c) (differences c) ≡ x → x ≡ clear
    go (first n) e = absurd (free n (clash-first c fit (rep_of c) (closing-represents c fit) n e).0)
    go clear e = refl

-- ---- what a text that is read without a fault gives

module _ (s : List ℕ) (c : Context) (t : Tells s c) where
  tells-fit : Fit c
  tells-fit = subst Fit t.context (read-formed narrow s t.all t.reads).fit

  tells-represents : Representatives c (rep_of c)
  tells-represents = closing-represents c tells-fit

  tells-clear : clash_of (rep_of t.all.ledger.context) (differences t.all.ledger.context) ≡ clear
  tells-clear = clear_of _ (read-formed narrow s t.all t.reads).fit (subst Consistent (sym t.context) t.consistent)

  tells-gives : Gives normalise s (normal_text_of c)
  tells-gives = subst (λ (x : Context). Gives normalise s (normal_text_of x)) t.context (normalise-gives s t.all t.reads tells-clear)

  pub tells-one : (u : List ℕ) → Gives normalise s u → u ≡ normal_text_of c
  tells-one u g = normalise-one s t.all t.reads tells-clear u g ∙ ap normal_text_of t.context

-- ---- a: which normal texts agree

texts-agree : (s t u v : List ℕ) (c d : Context) → Tells s c → Tells t d → c.rows ≡ d.rows → Gives normalise s u → Gives normalise t v → (u ≡ v) ↔ Alike c d
texts-agree s t u v c d x y rows g h =
    let p : u ≡ normal_text_of c = tells-one s c x u g in
    let q : v ≡ normal_text_of d = tells-one t d y v h in
    let w : (normal_text_of c ≡ normal_text_of d) ↔ Alike c d =
    normal-agree c d (rep_of c) (rep_of d) (tells-represents s c x) (tells-represents t d y) (tells-fit s c x) (tells-fit t d y) rows in
    (λ e. w.0 (sym p ∙ e ∙ q), λ a. p ∙ w.1 a ∙ sym q)

-- ---- b: normalising twice

-- a normal context has the same rows, an equation for a row at most, and no more differences
normal-writable : (c : Context) (rep : ℕ → ℕ) → Representatives c rep → Writable narrow c → Writable narrow (normal_of rep c)
unfolding normal_of
normal-writable c rep represents w =
    record {
      fit = normal-fit c rep represents w.fit;
      fits =
          record {
            few_rows = w.fits.few_rows;
            few_equations = omega (arith, ap length (normal-equations rep c), length-joins rep 0 (length c.rows), w.fits.few_rows);
            few_differences =
                omega
                (arith, ap length (normal-differences rep c), length-sorted (map (lower_first rep) (differences c)), length-map (differences c) (lower_first rep), w.fits.few_differences);
            rows_fit = w.fits.rows_fit;
          };
      agreed = w.agreed;
    }

module _ (s : List ℕ) (c : Context) (t : Tells s c) where
  normal-bare : Bare (normal_text_of c) (normal_of (rep_of c) c)
  unfolding holding
  normal-bare =
      record {
        tells =
            record {
              all = holding (normal_of (rep_of c) c).rows (normal_of (rep_of c) c).statements;
              reads =
                  text-taken narrow (record { rows_byte = omega arith; count_byte = omega arith }) (normal_of (rep_of c) c)
                  (normal-writable c (rep_of c) (tells-represents s c t) (subst (Writable narrow) t.context (read-writable narrow s t.all t.reads)));
              context = refl;
              consistent = (normal-consistent c (rep_of c) (tells-represents s c t) (tells-fit s c t)).0 t.consistent;
            };
        bare = refl;
      }

  -- both tables represent the normal context
  normal-self : normal_text_of (normal_of (rep_of c) c) ≡ normal_text_of c
  normal-self =
      let n : Context = normal_of (rep_of c) c in
      let f : Fit n = normal-fit c (rep_of c) (tells-represents s c t) (tells-fit s c t) in
      ap context_text (normal-one n (rep_of n) (rep_of c) (closing-represents n f) (normal-represents c (rep_of c) (tells-represents s c t) (tells-fit s c t)) f ∙ normal-twice c (rep_of c) (tells-represents s c t) (tells-fit s c t))

  text-twice : (u : List ℕ) → Gives normalise s u → ((d : Context) × Bare u d) × Gives normalise u u
  text-twice u g =
      let e : u ≡ normal_text_of c = tells-one s c t u g in
      let b : Bare (normal_text_of c) (normal_of (rep_of c) c) = normal-bare in
      subst (λ (v : List ℕ). ((d : Context) × Bare v d) × Gives normalise v v) (sym e) (
        (normal_of (rep_of c) c, b),
        subst (Gives normalise (normal_text_of c)) normal-self (tells-gives (normal_text_of c) (normal_of (rep_of c) c) b.tells),
      )

  -- what is read of the normal text is the normal context
  read-normal : (u : List ℕ) (d : Context) → Gives normalise s u → Tells u d → d ≡ normal_of (rep_of c) c
  read-normal u d g x =
      let e : read narrow u ≡ taken normal-bare.tells.all = ap (read narrow) (tells-one s c t u g) ∙ normal-bare.tells.reads in
      let f : read narrow u ≡ taken x.all = x.reads in
      let h : x.all ≡ normal-bare.tells.all = cc in
      sym x.context ∙ ap (λ (y : Read). y.ledger.context) h ∙ normal-bare.tells.context

-- ---- c: one reply for every rule

tells-judged : (text : List ℕ) (c : Context) (t : Tells text c) (r : Reply) → Replies narrow text r ↔ Judged c t.all.clause r
tells-judged text c t r = (
  λ x. subst (λ (d : Context). Judged d t.all.clause r) t.context (subst (λ (y : Reading). RepliesTo y r) t.reads x),
  λ x. subst (λ (y : Reading). RepliesTo y r) (sym t.reads) (subst (λ (d : Context). Judged d t.all.clause r) (sym t.context) x),
)

module _ (s u w : List ℕ) (c d : Context) (bare : Bare s c) (g : Gives normalise s u) (bare' : Bare u d) where
  normal-is : d ≡ normal_of (rep_of c) c
  normal-is = read-normal s c bare.tells u d g bare'.tells

  rows_are : c.rows ≡ d.rows
  rows_are = sym (ap (λ (x : Context). x.rows) normal-is ∙ normal-rows (rep_of c) c)

  rules-keep : Tells (s ++ w) c ↔ Tells (u ++ w) d
  rules-keep = rules-alike s u w c d bare bare' rows_are

  replies-keep : Tells (s ++ w) c → Tells (u ++ w) d → (r : Reply) → Replies narrow (s ++ w) r ↔ Replies narrow (u ++ w) r
  replies-keep x y r = (
    λ h. (tells-judged (u ++ w) d y r).1 (subst₂ (λ (e : Context) (k : Clause). Judged e k r) (sym normal-is) clause (judged.0 ((tells-judged (s ++ w) c x r).0 h))),
    λ h. (tells-judged (s ++ w) c x r).1 (judged.1 (subst₂ (λ (e : Context) (k : Clause). Judged e k r) normal-is (sym clause) ((tells-judged (u ++ w) d y r).0 h))),
  )
    where
      clause : x.all.clause ≡ y.all.clause
      clause = clause-alike s u w c d bare bare' rows_are x y

      judged : Judged c x.all.clause r ↔ Judged (normal_of (rep_of c) c) x.all.clause r
      judged =
          normal-judged c (rep_of c) (tells-represents s c bare.tells) (tells-fit s c bare.tells) x.all.clause bare.tells.consistent r

pub keeps-meaning : KeepsMeaning normalise
keeps-meaning =
    record {
      gives = λ s c t. (normal_text_of c, tells-gives s c t);
      agree = texts-agree;
      twice = λ s u c t g. text-twice s c t u g;
      rules = rules-keep;
      replies = replies-keep;
    }
