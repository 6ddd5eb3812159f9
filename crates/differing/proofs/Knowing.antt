-- What is known of pairs, and what is asked of them.
--     knows_start                       a memo of zeros knows nothing
--     lends-closed                      what is lent for well-formed columns
--     rows_are                          the rows of the context are so many
--     outside-left, outside-right       a number that is no row's differs from nothing
--     unlike                            no row differs from itself, where no stated difference clashes
--     low, turned                       two rows have a place, and are asked either way round
--     startable, clashed                what closing further asks, and what it answers
--     told-no, told-yes, noted          what a mark tells, and an answer noted
-- Assumes nothing.
use mathlib.Core.Bool.{Bool, true, false}
use mathlib.Core.List.{List}
use mathlib.Core.Path.{◌≡◌, refl, sym, ap, subst, ◌∙◌}
use mathlib.Core.Logic.{inl, inr}
use Prim.Native.Nat.{ℕ, ◌+◌, ◌*◌, ◌≤◌, ◌<◌}
use native.Mathlib.Omega.{arith}
use native.Mathlib.Decide.{ℕ_discrete}
use lib.ListN.{length, get_or, set, replicate, length-set, length-replicate, get_or-replicate}
use lib.Seq.{get_or-set_same, get_or-set_other}
use borrow.Author.Rules.{rules}
use Rattle.meaning.specs.Context.{Context, differences_of}
use Rattle.meaning.specs.Equality.{rep_at, reflexive}
use Rattle.meaning.specs.ByTable.{clear, clash_of}
use Rattle.meaning.specs.Columns.{statements_from, context_from}
use Rattle.meaning.specs.Following.{differ_by}
use Rattle.meaning.proofs.Apartness.{clash-clear}
use Rattle.meaning.proofs.Following.{consistent-differ}
use Rattle.meaning.proofs.FollowingNumbers.{differ_by-rows, differ_by-inside, differ_by-outside, differ_by-symmetric}
use Rattle.meaning.proofs.Built.{length-rows}
use Rattle.columns.specs.Fit.{Laid, FitContext}
use Rattle.further.specs.Claims.{FitRows, Orderly, ClashesWith}
use Rattle.further.proofs.Standing.{promise-orderly}
use Rattle.further.proofs.Answers.{fit-rows}
use Rattle.differing.specs.Knowing.{mark_of, Tells, Lends, ClosedBy, Knows}

-- ---- the memo

pub knows_start : (c : Context) (known : List ℕ) → known ≡ replicate 65025 0 → Knows c known
knows_start c known e =
    record {
      long = ap length e ∙ length-replicate {A = ℕ} 65025 0;
      told = λ n m hn hm.
          let z : get_or known (n * 255 + m) 0 ≡ 0 = ap (λ (l : List ℕ). get_or l (n * 255 + m) 0) e ∙ get_or-replicate {A = ℕ} 65025 (n * 255 + m) 0 0 (omega arith) in
          record { refuses = λ q. absurd (omega (arith, z)); admits = λ q. absurd (omega (arith, z)) };
    }

mark-tells : (v : ℕ) (b : Bool) → v ≡ mark_of b → Tells v b
mark-tells v true e = record { refuses = λ q. absurd (omega arith); admits = λ q. refl }
mark-tells v false e = record { refuses = λ q. refl; admits = λ q. absurd (omega arith) }

knows_set : (c : Context) (known : List ℕ) (x y k v : ℕ) (b : Bool) → Knows c known → x < 255 → y < 255 → k ≡ x * 255 + y → b ≡ differ_by c x y → v ≡ mark_of b
    → Knows c (set known k v)
knows_set c known x y k v b w hx hy ek eb ev =
    record { long = length-set known k v ∙ w.long; told = λ n m hn hm. go n m hn hm (ℕ_discrete (n * 255 + m) k) }
  where
    go : (n m : ℕ) → n < 255 → m < 255 → Dec (n * 255 + m ≡ k) → Tells (get_or (set known k v) (n * 255 + m) 0) (differ_by c n m)
    go n m hn hm (yes e) =
        let p : n ≡ x = omega arith in
        let q : m ≡ y = omega arith in
        let g : get_or (set known k v) (n * 255 + m) 0 ≡ v = ap (λ i. get_or (set known k v) i 0) e ∙ get_or-set_same known k v 0 (omega (arith, w.long)) in
        rw (g, p, q, ← eb) (mark-tells v b ev)
    go n m hn hm (no e) = rw (get_or-set_other known k (n * 255 + m) v 0 e) (w.told n m hn hm)

-- ---- what is asked

module _ (symbols counts args : List ℕ) (rows : ℕ) (kinds lefts rights : List ℕ) (statements : ℕ) where
  abbrev c : Context
  c = context_from symbols counts args rows kinds lefts rights statements

  pub lends-closed : (closed busy : List ℕ) → Lends symbols counts args rows kinds lefts rights statements closed busy
      → FitContext symbols counts args rows kinds lefts rights statements → Laid counts args rows
      → ClosedBy symbols counts args rows kinds lefts rights statements closed busy
  lends-closed closed busy w f l = record { fit = f; laid = l; closes = w.closes f; marks = w.marks f }

  pub rows_are : length c.rows ≡ rows
  unfolding context_from
  rows_are = length-rows symbols counts args rows

  pub outside-left : (n m x : ℕ) → x ≡ n → rows ≤ x → false ≡ differ_by c n m
  outside-left n m x e h = sym (differ_by-outside c n m (inl (omega (arith, rows_are))))

  pub outside-right : (n m y : ℕ) → y ≡ m → rows ≤ y → false ≡ differ_by c n m
  outside-right n m y e h = sym (differ_by-outside c n m (inr (omega (arith, rows_are))))

  module _ (closed busy : List ℕ) (f : ClosedBy symbols counts args rows kinds lefts rights statements closed busy) where
    pub unlike : clash_of (rep_at closed) (differences_of (statements_from kinds lefts rights statements)) ≡ clear → (n : ℕ) → differ_by c n n ≡ false
    unfolding context_from
    unlike e n = go (differ_by c n n) refl
      where
        go : (b : Bool) → differ_by c n n ≡ b → differ_by c n n ≡ false
        go false q = q
        go true q =
            let h : (n < length c.rows) × (n < length c.rows) = differ_by-inside c n n q in
            absurd (consistent-differ c (clash-clear c f.fit.fit (rep_at closed) f.closes.rows e) _ _ reflexive
            ((differ_by-rows c f.fit.fit n n h.0 h.1).1 q))

    pub startable : FitRows symbols counts args rows × Orderly rows closed
    startable = (
      fit-rows symbols counts args rows kinds lefts rights statements f.fit f.laid,
      subst (λ (n : ℕ). Orderly n closed) rows_are (promise-orderly c f.fit.fit closed f.closes),
    )

    pub clashed : (x y : ℕ) (b : Bool) → ClashesWith symbols counts args rows kinds lefts rights statements closed busy x y b → b ≡ differ_by c x y
    clashed x y b w = w.wider f.fit f.closes f.marks

    module _ (x y : ℕ) (h : (x < rows) × (y < rows)) where
      pub low : (x < 255) × (y < 255)
      low = (omega (arith, h.0, f.fit.rows_few), omega (arith, h.1, f.fit.rows_few))

      pub turned : (r : Bool) → r ≡ differ_by c y x → r ≡ differ_by c x y
      turned r e = e ∙ differ_by-symmetric c f.fit.fit y x (omega (arith, h.1, rows_are)) (omega (arith, h.0, rows_are))

      module _ (known : List ℕ) (w : Knows c known) (k v : ℕ) (ek : k ≡ x * 255 + y) where
        tells : v ≡ get_or known k 0 → Tells v (differ_by c x y)
        tells e = rw (e, ek) (w.told x y low.0 low.1)

        pub told-no : v ≡ get_or known k 0 → v ≡ 1 → false ≡ differ_by c x y
        told-no e q = sym ((tells e).refuses q)

        pub told-yes : v ≡ get_or known k 0 → v ≡ 2 → true ≡ differ_by c x y
        told-yes e q = sym ((tells e).admits q)

        pub noted : (b : Bool) → ClashesWith symbols counts args rows kinds lefts rights statements closed busy x y b → v ≡ mark_of b → Knows c (set known k v)
        noted b eb ev = knows_set c known x y k v b w low.0 low.1 ek (clashed x y b eb) ev

pub ruleset mine = (rules, told-no, told-yes, startable, clashed, noted, outside-left, outside-right, turned, low)
