-- Whether the equation of two rows makes the sides of some stated difference equal, by the cheap tests and by closing further.
--     free-consistent     where no stated difference has one representative the context does not contradict itself
--     clashes-differs     from a context's table and marks a yes says that the two rows differ
--     mine                what `follows` and `clashes_ready` leave to show
-- Assumes nothing.
use mathlib.Core.Bool.{Bool, true, false, not}
use mathlib.Core.List.{List}
use mathlib.Core.Path.{◌≡◌, refl, ap, sym, ◌∙◌, subst}
use mathlib.Core.Logic.{inl, inr, ◌↔◌}
use Prim.Native.Nat.{ℕ, ◌≤◌, ◌<◌}
use native.Mathlib.Omega.{arith}
use lib.Dec.{eqb}
use lib.ListN.{length, get_or}
use borrow.Author.Rules.{rules}
use borrow.Author.Tests.{eqb-true, not-true, not-false}
use Rattle.meaning.specs.Context.{term_at, Context, differences, differences_of}
use Rattle.meaning.specs.Equality.{Consistent, Representatives, Promise, rep_at}
use Rattle.meaning.specs.Rules.{Differ}
use Rattle.meaning.specs.Formed.{Fit}
use Rattle.meaning.specs.ByTable.{clash_of, apart_by}
use Rattle.meaning.specs.Columns.{rows_from, statements_from, context_from}
use Rattle.meaning.specs.Following.{with_equation, follows_by, occurs_by, differ_by}
use Rattle.meaning.proofs.Logic.{or-none, false-true}
use Rattle.meaning.proofs.Promised.{model-rows}
use Rattle.meaning.proofs.FollowingTable.{follows_by-true, follows-first, follows-clear}
use Rattle.meaning.proofs.FollowingNumbers.{differ_by-rows, differ_by-outside, differ_by-table, differ_by-stated, differ_by-unused}
use Rattle.meaning.proofs.Built.{length-rows}
use Rattle.columns.specs.Fit.{FitContext}
use Rattle.closing.specs.Claims.{clashing}
use Rattle.std.specs.Prelude.{Option, Some, None}
use Rattle.std.specs.Option.{is_some}
use Rattle.further.specs.Claims.{Orderly, Startable, standing_in, ClashesWith}
use Rattle.further.specs.Marks.{busy_by, raise, Marks}
use Rattle.further.proofs.Standing.{standing-adds, promise-orderly}

pub free-consistent : (c : Context) → Fit c → (rep : ℕ → ℕ) → Representatives c rep → follows_by rep (differences c) ≡ false → Consistent c
free-consistent c fit rep r e m w =
    false-true
    ((follows_by-true rep (differences c)).1 (m, (w.0, (model-rows c fit rep r _ _ (fit.apart m w.0).0 (fit.apart m w.0).1).0 w.1)))
    e

-- ---- the sides of some difference have one representative

pub follows-is : (rep : ℕ → ℕ) (ds : List (ℕ × ℕ)) (r : Option ℕ) (b : Bool) → clashing r ≡ clash_of rep ds → b ≡ is_some r → b ≡ follows_by rep ds
follows-is rep ds (Some n) b e q = q ∙ sym (follows-first rep ds n (sym e))
follows-is rep ds None b e q = q ∙ sym (follows-clear rep ds (sym e))

-- ---- a class that is not marked

raise-none : (b : Bool) → raise b 0 ≡ 0 → b ≡ false
unfolding raise
raise-none true e = absurd (let z : ◌≡◌ {A = ℕ} 0 1 = cc in omega arith)
raise-none false e = refl

idle : (c : Context) (t marks : List ℕ) → Marks c t marks → (a : ℕ) → a < 255 → get_or marks a 0 ≡ 0
    → (follows_by (rep_at t) (differences c) ≡ false) × (occurs_by (rep_at t) c.rows (differences c) a ≡ false)
unfolding busy_by
idle c t marks k a h e =
    or-none (follows_by (rep_at t) (differences c)) (occurs_by (rep_at t) c.rows (differences c) a)
    (raise-none (busy_by (rep_at t) c.rows (differences c) a) (sym (k.each a h) ∙ e))

-- ---- the answers, in the code's order

module _ (symbols counts args : List ℕ) (n : ℕ) (kinds lefts rights : List ℕ) (m : ℕ) (t busy : List ℕ) (x y : ℕ) where
  abbrev con : Context
  con = context_from symbols counts args n kinds lefts rights m

  abbrev Said : Bool → Type 0
  Said = ClashesWith symbols counts args n kinds lefts rights m t busy x y

  long : length con.rows ≡ n
  unfolding context_from
  long = length-rows symbols counts args n

  pub clashes-first : n ≤ x → Said false
  clashes-first h = record { wider = λ f p k. sym (differ_by-outside con x y (inl (omega (arith, long)))) }

  pub clashes-second : n ≤ y → Said false
  clashes-second h = record { wider = λ f p k. sym (differ_by-outside con x y (inr (omega (arith, long)))) }

  module _ (hx : x < n) (hy : y < n) where
    in-x : x < length con.rows
    in-x = omega (arith, long)

    in-y : y < length con.rows
    in-y = omega (arith, long)

    unused : FitContext symbols counts args n kinds lefts rights m → (p : Promise con 255 t) → Marks con t busy → (z : ℕ) → z < length con.rows
        → get_or busy (rep_at t z) 0 ≡ 0 → Consistent con × (occurs_by (rep_at t) con.rows (differences con) (rep_at t z) ≡ false)
    unused f p k z hz e =
        let w : (follows_by (rep_at t) (differences con) ≡ false) × (occurs_by (rep_at t) con.rows (differences con) (rep_at t z) ≡ false) =
        idle con t busy k (rep_at t z) (omega (arith, (p.rows z hz).row, long, f.rows_few)) e in
        (free-consistent con f.fit (rep_at t) p.rows w.0, w.1)

    pub clashes-idle-first : (a a' : ℕ) (r : Bool) → a ≡ rep_at t x → a' ≡ a → r ≡ not (eqb (get_or busy a' 0) 0) → r ≡ false → Said false
    clashes-idle-first a a' r ea e er f = record {
      wider = λ fit p k.
          let w : Consistent con × (occurs_by (rep_at t) con.rows (differences con) (rep_at t x) ≡ false) =
          unused fit p k x in-x (subst (λ (z : ℕ). get_or busy z 0 ≡ 0) (e ∙ ea) (eqb-true (get_or busy a' 0) 0 (not-false _ (sym er ∙ f)))) in
          sym (differ_by-unused con fit.fit (rep_at t) p.rows w.0 x y in-x in-y (inl w.1));
    }

    pub clashes-idle-second : (b b' : ℕ) (r : Bool) → b ≡ rep_at t y → b' ≡ b → r ≡ not (eqb (get_or busy b' 0) 0) → r ≡ false → Said false
    clashes-idle-second b b' r eb e er f = record {
      wider = λ fit p k.
          let w : Consistent con × (occurs_by (rep_at t) con.rows (differences con) (rep_at t y) ≡ false) =
          unused fit p k y in-y (subst (λ (z : ℕ). get_or busy z 0 ≡ 0) (e ∙ eb) (eqb-true (get_or busy b' 0) 0 (not-false _ (sym er ∙ f)))) in
          sym (differ_by-unused con fit.fit (rep_at t) p.rows w.0 x y in-x in-y (inr w.1));
    }

    pub clashes-apart : (a b : ℕ) (r : Bool) → a ≡ rep_at t x → b ≡ rep_at t y
        → r ≡ apart_by (rep_at t) (differences_of (statements_from kinds lefts rights m)) a b → r ≡ true → Said true
    unfolding context_from
    clashes-apart a b r ea eb er e = record {
      wider = λ fit p k.
          sym (differ_by-stated con fit.fit (rep_at t) p.rows x y in-x in-y
          (ap (λ (z : ℕ). apart_by (rep_at t) (differences con) z (rep_at t y)) (sym ea) ∙ ap (apart_by (rep_at t) (differences con) a) (sym eb) ∙ sym er ∙ e));
    }

    pub clashes-startable : Orderly n t → Startable n t x y
    clashes-startable o = record { first = hx; second = hy; table = o }

    pub clashes-further : (u : List ℕ) (r : Bool) → Promise (with_equation (standing_in (rows_from symbols counts args n) t) x y) 255 u
        → r ≡ follows_by (rep_at u) (differences_of (statements_from kinds lefts rights m)) → Said r
    unfolding context_from
    clashes-further u r w er =
        record {
          wider = λ fit p k. er ∙ sym (differ_by-table con fit.fit x y in-x in-y (rep_at u) (standing-adds con fit.fit t p x y u w).rows);
        }

  -- ---- columns or a table that one cannot start from

  pub clashes-unfit : (FitContext symbols counts args n kinds lefts rights m → ⊥) → Said false
  clashes-unfit f = record { wider = λ fit p k. absurd (f fit) }

  pub clashes-stray : (Orderly n t → ⊥) → Said false
  clashes-stray o = record { wider = λ fit p k. absurd (o (subst (λ (z : ℕ). Orderly z t) long (promise-orderly con fit.fit t p))) }

-- ---- what the answer says

module _ (symbols counts args : List ℕ) (n : ℕ) (kinds lefts rights : List ℕ) (m : ℕ) (fit : FitContext symbols counts args n kinds lefts rights m) where
  abbrev text : Context
  text = context_from symbols counts args n kinds lefts rights m

  pub clashes-differs : (t busy : List ℕ) → Promise text 255 t → Marks text t busy → (x y : ℕ) → x < n → y < n → (r : Bool)
      → ClashesWith symbols counts args n kinds lefts rights m t busy x y r → Differ text (term_at text.rows x) (term_at text.rows y) ↔ (r ≡ true)
  unfolding context_from
  clashes-differs t busy p k x y hx hy r w =
      let long : length text.rows ≡ n = length-rows symbols counts args n in
      let d : Differ text (term_at text.rows x) (term_at text.rows y) ↔ (differ_by text x y ≡ true) =
      differ_by-rows text fit.fit x y (omega arith) (omega arith) in
      (λ z. w.wider fit p k ∙ d.0 z, λ e. d.1 (sym (w.wider fit p k) ∙ e))

pub ruleset mine = (
  rules,
  follows-is,
  not-true,
  not-false,
  clashes-first,
  clashes-second,
  clashes-idle-first,
  clashes-idle-second,
  clashes-apart,
  clashes-startable,
  clashes-further,
)
