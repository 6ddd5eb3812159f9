-- The search of the code from an assignment on gives the first breach after the one before it, whatever the table is.
--     sift-from       of the rows that are their own representatives those from a row on
--     from-narrows    the pruning that drops rows which only earlier assignments use gives each variable its rows
--     hunt-next       the first breach after an assignment
-- Assumes nothing.
use mathlib.Core.Bool.{Bool, true, false, not, ◌||◌}
use mathlib.Core.List.{List, [], ◌∷◌, ◌++◌}
use mathlib.Core.Path.{◌≡◌, refl, sym, ap, ap₂, ◌∙◌}
use Prim.Native.Nat.{ℕ, zero, suc, ◌+◌, ◌-◌, ◌≤◌, ◌<◌}
use native.Mathlib.Omega.{arith}
use native.Mathlib.Nat.{sub-zero}
use lib.Dec.{eqb, leb}
use borrow.Author.Tests.{eqb-true, eqb-false, eq-eqb, ne_eqb, le-leb, leb-true}
use lib.ListN.{length, get_or, take, replicate, length-take}
use lib.Seq.{take_at, take-take, get_or-take}
use Rattle.meaning.specs.Context.{Row}
use Rattle.meaning.specs.Rules.{Pattern, Literal, Clause, variables}
use Rattle.meaning.specs.Formed.{AllPlaced}
use Rattle.meaning.specs.ByTable.{same_list}
use Rattle.meaning.specs.Values.{levels}
use Rattle.meaning.specs.FirstBy.{lowest}
use Rattle.meaning.proofs.Box.{Box}
use Rattle.meaning.proofs.Search.{search}
use Rattle.meaning.proofs.Prunings.{sift, sift_box, idle-keeps-all}
use Rattle.meaning.proofs.From.{not_earlier, not_before}
use Rattle.meaning.proofs.Pruned.{start_box, Sought, dead, search_from, first-from-all}
use Rattle.meaning.proofs.Due.{due-search}
use Rattle.plan.specs.Planning.{Arranged}
use Rattle.meaning.specs.Next.{next_by}
use Rattle.search.specs.Hunting.{stage_of, dead_of, enter_from, start_of, alone_of, rows_of}
use Rattle.search.proofs.Bridge.{Alike, Narrows, zero-at, hunt-search}
use Rattle.search.proofs.Next.{bump, next-from}

-- ---- rows that a test keeps

sift-is : (keep : ℕ → Bool) (x : ℕ) (l : List ℕ) (b : Bool) → keep x ≡ b → sift keep (x ∷ l) ≡ elim b [ true ↦ x ∷ sift keep l | false ↦ sift keep l ]
unfolding sift
sift-is keep x l b e = rw (e, sift)

sift-all : (keep : ℕ → Bool) → ((x : ℕ) → keep x ≡ true) → (l : List ℕ) → sift keep l ≡ l
unfolding sift
sift-all keep f [] = refl
sift-all keep f (x ∷ l) = sift-is keep x l true (f x) ∙ ap (x ∷◌) (sift-all keep f l)

sift_box-all : (keep : ℕ → ℕ → Bool) (v : ℕ) → ((w x : ℕ) → v ≤ w → keep w x ≡ true) → (n : ℕ) (l : List ℕ) → sift_box keep v (replicate n l) ≡ replicate n l
unfolding sift_box
sift_box-all keep v f zero l = refl
sift_box-all keep v f (suc n) l = ap₂ ◌∷◌ (sift-all (keep v) (λ x. f v x (omega arith)) l) (sift_box-all keep (suc v) (λ w x h. f w x (omega arith)) n l)

module _ (rep : ℕ → ℕ) (s : ℕ) (keep : ℕ → Bool) (keeps : (x : ℕ) → keep x ≡ leb s x) where
  lowest-is : (i m : ℕ) (b : Bool) → eqb (rep i) i ≡ b → lowest rep i (suc m) ≡ elim b [ true ↦ i ∷ lowest rep (suc i) m | false ↦ lowest rep (suc i) m ]
  unfolding lowest
  lowest-is i m b e = rw (e, lowest)

  kept : (i : ℕ) (b : Bool) → leb s i ≡ b → keep i ≡ b
  kept i b e = keeps i ∙ e

  sift-later : (i m : ℕ) → s ≤ i → sift keep (lowest rep i m) ≡ lowest rep i m
  unfolding lowest sift
  sift-later i zero h = refl
  sift-later i (suc m) h = go (eqb (rep i) i) refl (sift-later (suc i) m (omega arith))
    where
      go : (b : Bool) → eqb (rep i) i ≡ b → sift keep (lowest rep (suc i) m) ≡ lowest rep (suc i) m → sift keep (lowest rep i (suc m)) ≡ lowest rep i (suc m)
      go true e ih = rw (lowest-is i m true e) (sift-is keep i (lowest rep (suc i) m) true (kept i true (le-leb s i h)) ∙ ap (i ∷◌) ih)
      go false e ih = rw (lowest-is i m false e) ih

  sift-earlier : (i m : ℕ) → i < s → sift keep (lowest rep i (suc m)) ≡ sift keep (lowest rep (suc i) m)
  sift-earlier i m h = go (eqb (rep i) i) refl
    where
      late : (b : Bool) → leb s i ≡ b → leb s i ≡ false
      late false e = e
      late true e = absurd (omega (arith, leb-true s i e))

      go : (b : Bool) → eqb (rep i) i ≡ b → sift keep (lowest rep i (suc m)) ≡ sift keep (lowest rep (suc i) m)
      go true e = ap (sift keep) (lowest-is i m true e) ∙ sift-is keep i (lowest rep (suc i) m) false (kept i false (late (leb s i) refl))
      go false e = ap (sift keep) (lowest-is i m false e)

  pub sift-from : (i m : ℕ) → i ≤ s → sift keep (lowest rep i m) ≡ lowest rep s ((i + m) - s)
  unfolding lowest sift
  sift-from i zero h = let e : (i + 0) - s ≡ 0 = omega arith in rw e
  sift-from i (suc m) h = go (eqb i s) refl (λ l. sift-from (suc i) m l)
    where
      go : (b : Bool) → eqb i s ≡ b → (suc i ≤ s → sift keep (lowest rep (suc i) m) ≡ lowest rep s ((suc i + m) - s)) → sift keep (lowest rep i (suc m)) ≡ lowest rep s ((i + suc m) - s)
      go true e ih =
          let q : i ≡ s = eqb-true i s e in
          let n : suc m ≡ (i + suc m) - s = omega arith in
          sift-later i (suc m) (omega arith) ∙ ap₂ (lowest rep) q n
      go false e ih =
          let n : (suc i + m) - s ≡ (i + suc m) - s = omega arith in
          sift-earlier i m (omega (arith, eqb-false i s e)) ∙ ih (omega (arith, eqb-false i s e)) ∙ ap (lowest rep s) n

-- ---- the search from an assignment on

module _ (rows : List Row) (rep : ℕ → ℕ) (ps : List Pattern) (placed : AllPlaced 0 ps) (few : length ps ≤ 64)
    (ls order ends : List ℕ) (same : Alike ls (levels ps)) (order_is : Arranged (levels ps) order ends)
    (differs : ℕ → ℕ → Bool) (lits : List Literal) (from : List ℕ) where
  abbrev clause : Clause
  clause = record { patterns = ps; literals = lits }

  abbrev low : List ℕ
  low = lowest rep 0 (length rows)

  -- the places that are read
  abbrev begin : List ℕ
  begin = take (variables ps) from

  abbrev onward : List ℕ → Box → Box
  onward chosen box = not_before begin chosen box

  later-kept : (a : List ℕ) (w x : ℕ) → suc (length a) ≤ w → not_earlier begin a w x ≡ true
  unfolding not_earlier
  later-kept a w x h = rw (ne_eqb w (length a) (λ e. omega arith)) refl

  next-kept : (a : List ℕ) (b : Bool) → same_list a (take (length a) begin) ≡ b → (x : ℕ) → not_earlier begin a (length a) x ≡ (not b || leb (get_or begin (length a) 0) x)
  unfolding not_earlier
  next-kept a b e x = rw (eq-eqb (length a) (length a) refl, e) refl

  start-at : (a rest : List ℕ) (k : ℕ) → length a ≡ k → k < variables ps → (b : Bool) → same_list a (take (length a) begin) ≡ b
      → start_of from k (a ++ rest) ≡ elim b [ true ↦ get_or begin (length a) 0 | false ↦ 0 ]
  unfolding start_of
  start-at a rest k l h b e =
      rw (take_at a rest k l, same_test, start_of) (go b)
    where
      same_test : same_list a (take k from) ≡ b
      same_test = ap (same_list a) (sym (take-take k (variables ps) from (omega arith)) ∙ ap (λ n. take n begin) (sym l)) ∙ e

      go : (c : Bool) → ◌≡◌ {A = ℕ} (elim c [ true ↦ get_or from k 0 | false ↦ 0 ]) (elim c [ true ↦ get_or begin (length a) 0 | false ↦ 0 ])
      go true = sym (ap (λ n. get_or begin n 0) l ∙ get_or-take (variables ps) from k 0 h)
      go false = refl

  plain : (k : ℕ) (l : List ℕ) → alone_of (get_or (replicate 4 0) k 0) l ≡ l
  unfolding alone_of
  plain k l = rw (zero-at 4 k, alone_of)

  from-narrows : Narrows low (variables ps) onward (rows_of rep (length rows) (replicate 4 0) from)
  unfolding not_before sift_box rows_of
  from-narrows n k a rest l t =
      ap₂ ◌∷◌ (next (same_list a (take (length a) begin)) refl) (sift_box-all (not_earlier begin a) (suc (length a)) (later-kept a) n low)
    where
      zero-add : (n : ℕ) → 0 + n ≡ n
      zero-add n = omega arith

      next : (b : Bool) → same_list a (take (length a) begin) ≡ b → sift (not_earlier begin a (length a)) low ≡ rows_of rep (length rows) (replicate 4 0) from k (a ++ rest)
      next true e =
          sift-from rep (get_or begin (length a) 0) (not_earlier begin a (length a)) (next-kept a true e) 0 (length rows) (omega arith)
          ∙ ap (λ n. lowest rep (get_or begin (length a) 0) (n - get_or begin (length a) 0)) (zero-add (length rows))
          ∙ ap (λ s. lowest rep s (length rows - s)) (sym (start-at a rest k l (omega arith) true e))
          ∙ sym (plain k (lowest rep (start_of from k (a ++ rest)) (length rows - start_of from k (a ++ rest))))
      next false e =
          sift-all (not_earlier begin a (length a)) (next-kept a false e) low
          ∙ ap (lowest rep 0) (sym (sub-zero (length rows)))
          ∙ ap (λ s. lowest rep s (length rows - s)) (sym (start-at a rest k l (omega arith) false e))
          ∙ sym (plain k (lowest rep (start_of from k (a ++ rest)) (length rows - start_of from k (a ++ rest))))

  pub hunt-next : variables ps ≤ 4 → 0 < variables ps → (after : List ℕ) → length after ≡ 4 → length from ≡ 4 → begin ≡ bump (take (variables ps) after)
      → enter_from (stage_of rows rep ps order ends) (dead_of differs ls lits) (rows_of rep (length rows) (replicate 4 0) from) (variables ps) 0 (replicate 4 255) (replicate 64 0)
      ≡ next_by differs rows rep 65536 clause after
  unfolding search_from
  hunt-next h some after la lf e =
      hunt-search rows rep ps placed few ls order ends same order_is differs lits onward (rows_of rep (length rows) (replicate 4 0) from) from-narrows h
      ∙ sym (due-search differs rows rep 65536 clause onward (variables ps) (start_box rows rep clause))
      ∙ next-from differs rows rep 65536 clause after some begin e (omega (arith, length-take (variables ps) after))
      (search (dead differs rows rep 65536 clause) onward (variables ps) [] (start_box rows rep clause))
      (first-from-all differs rows rep 65536 clause (λ chosen box. box) begin (omega (arith, length-take (variables ps) from)) (idle-keeps-all (Sought differs rows rep 65536 clause) low))
