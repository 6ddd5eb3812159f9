-- The list of all members that a pruned search comes to is the whole list, where its pruning keeps every member.
--     collect             the search that goes on after each member
--     collect-lists       it lists every member inside its box, each once and in order
--     matched-list        with any pruning that keeps every member it gives the list of the plain search
-- Assumes nothing.
use mathlib.Core.Bool.{Bool, true, false}
use mathlib.Core.List.{List, [], ◌∷◌, ◌++◌, append-nil, append_assoc}
use mathlib.Core.Path.{◌≡◌, refl, sym, ◌∙◌}
use mathlib.Core.Logic.{inl, inr, ⊎_elim, ◌↔◌}
use Prim.Native.Nat.{ℕ, zero, suc, ◌+◌, ◌<◌}
use native.Mathlib.Omega.{arith}
use lib.ListN.{length, length-append, length-replicate}
use Rattle.meaning.specs.Context.{Row}
use Rattle.meaning.specs.Rules.{Clause, variables, Before}
use Rattle.meaning.specs.Listing.{Enumerates}
use Rattle.meaning.proofs.Box.{Box, Mem, Above, above-mem, Rising, Inside, Good, OfRows, of-rows-next, Open, open-split, open_none, open-leaf, good-replicate, open-replicate}
use Rattle.meaning.proofs.Search.{Cuts}
use Rattle.meaning.proofs.Prunings.{KeepsAll}
use Rattle.meaning.proofs.Listing.{enumerates-same, enumerates-split, enumerates-one}
use Rattle.meaning.proofs.ListingNext.{each_of, every_by, every-sought}
use Rattle.meaning.proofs.Seek.{starts, starts-rising}
use Rattle.meaning.proofs.Pruned.{Sought, dead, dead-cuts, start_box}

unfoldable pub each_box : (List ℕ → Box → List (List ℕ)) → List ℕ → Box → List (List ℕ)
each_box next chosen [] = []
each_box next chosen (l ∷ box) = each_of (λ c. next c box) chosen l

-- n variables are open; a choice that is dead is cut
unfoldable pub collect : (List ℕ → Bool) → (List ℕ → Box → Box) → ℕ → List ℕ → Box → List (List ℕ)
collect dead prune zero chosen box = elim (dead chosen) [ true ↦ [] | false ↦ chosen ∷ [] ]
collect dead prune (suc n) chosen box = elim (dead chosen) [ true ↦ [] | false ↦ each_box (collect dead prune n) chosen (prune chosen box) ]

before-behind : (c : List ℕ) (x y : ℕ) (r q : List ℕ) → x < y → Before (c ++ x ∷ r) (c ++ y ∷ q)
before-behind [] x y r q h = inl h
before-behind (z ∷ c) x y r q h = inr (refl, before-behind c x y r q h)

module _ (So : List ℕ → Type 0) where
  none-lists : (P : List ℕ → Type 0) → ((a : List ℕ) → P a → ⊥) → Enumerates P []
  none-lists P f = record { sound = λ a m. absurd m; complete = λ a o. absurd (f a o); order = tt }

  open-before : (chosen : List ℕ) (x : ℕ) (l : List ℕ) (box : Box) → Above x l → (a b : List ℕ)
      → Open So (chosen ++ (x ∷ [])) box a → Open So chosen (l ∷ box) b → Before a b
  open-before chosen x l box up a b o p = go p.rest p.whole p.inside
    where
      go : (q : List ℕ) → b ≡ chosen ++ q → Inside (l ∷ box) q → Before a b
      go [] f i = absurd i
      go (y ∷ q) f i =
          let e : a ≡ chosen ++ x ∷ o.rest = o.whole ∙ append_assoc chosen (x ∷ []) o.rest in
          rw (e, f) (before-behind chosen x y o.rest q (above-mem x y l up i.0))

  each-lists : (next : List ℕ → List (List ℕ)) (chosen l : List ℕ) (box : Box) → Rising l
      → ((x : ℕ) → Mem x l → Enumerates (Open So (chosen ++ (x ∷ [])) box) (next (chosen ++ (x ∷ []))))
      → Enumerates (Open So chosen (l ∷ box)) (each_of next chosen l)
  unfolding each_of
  each-lists next chosen [] box up f = none-lists (Open So chosen ([] ∷ box)) (open_none So chosen box)
  each-lists next chosen (x ∷ l) box up f =
      enumerates-split
      (λ a. ((open-split So chosen x l box up.0).cases a, ⊎_elim ((open-split So chosen x l box up.0).here a) ((open-split So chosen x l box up.0).later a)))
      (open-before chosen x l box up.0)
      (next (chosen ++ (x ∷ [])))
      (each_of next chosen l)
      (f x (inl refl))
      (each-lists next chosen l box up.1 (λ y m. f y (inr m)))

  module _ (total : ℕ) (rows : List ℕ) (dead : List ℕ → Bool) (prune : List ℕ → Box → Box) (c : Cuts So total rows dead) (p : KeepsAll So rows prune) where
    dead-none : (chosen : List ℕ) (box : Box) → dead chosen ≡ true → (a : List ℕ) → Open So chosen box a → ⊥
    dead-none chosen box e a o = c.cut chosen e o.rest (rw o.whole at o.so)

    pub collect-lists : (n : ℕ) (chosen : List ℕ) (box : Box) → length chosen + n ≡ total → length box ≡ n → OfRows rows chosen box
        → Enumerates (Open So chosen box) (collect dead prune n chosen box)
    unfolding collect each_box
    collect-lists zero chosen (l ∷ box) t h w = absurd (omega arith)
    collect-lists zero chosen [] t h w = go (dead chosen) refl
      where
        go : (d : Bool) → dead chosen ≡ d → Enumerates (Open So chosen []) (collect dead prune zero chosen [])
        go true e = rw (e, collect) (none-lists (Open So chosen []) (dead-none chosen [] e))
        go false e =
            let here : Open So chosen [] chosen = record { rest = []; whole = sym (append-nil chosen); inside = tt; so = c.leaf chosen (omega arith) w.0 e } in
            rw (e, collect)
            (record { sound = λ a m. ⊎_elim (λ q. rw q here) (λ z. absurd z) m; complete = λ a o. inl (open-leaf So chosen a o); order = tt })
    collect-lists (suc n) chosen box t h w = go (dead chosen) refl (collect-lists n)
      where
        go : (d : Bool) → dead chosen ≡ d
            → ((x : List ℕ) (b : Box) → length x + n ≡ total → length b ≡ n → OfRows rows x b → Enumerates (Open So x b) (collect dead prune n x b))
            → Enumerates (Open So chosen box) (collect dead prune (suc n) chosen box)
        go true e ih = rw (e, collect) (none-lists (Open So chosen box) (dead-none chosen box e))
        go false e ih =
            rw (e, collect)
            (enumerates-same (p.keeps chosen box w) (each_box (collect dead prune n) chosen (prune chosen box))
            (inner (prune chosen box) (p.good chosen box w.1) (p.long chosen box ∙ h)))
          where
            inner : (new : Box) → Good rows new → length new ≡ suc n → Enumerates (Open So chosen new) (each_box (collect dead prune n) chosen new)
            inner [] g ln = absurd (omega arith)
            inner (l ∷ new) g ln =
                each-lists (λ x. collect dead prune n x new) chosen l new g.0.0
                (λ x m. ih (chosen ++ (x ∷ [])) new (omega (arith, length-append chosen (x ∷ []))) (omega arith) (of-rows-next rows chosen l new w.0 g x m))

module _ (differs : ℕ → ℕ → Bool) (rows : List Row) (rep : ℕ → ℕ) (offset : ℕ) (k : Clause) where
  abbrev Sought' : List ℕ → Type 0
  Sought' = Sought differs rows rep offset k

  abbrev n : ℕ
  n = variables k.patterns

  pub matched-list : (prune : List ℕ → Box → Box) → KeepsAll (Sought differs rows rep offset k) (starts rows rep) prune
      → collect (dead differs rows rep offset k) prune (variables k.patterns) [] (start_box rows rep k) ≡ every_by differs rows rep offset k
  matched-list prune p =
      enumerates-one Sought' (collect (dead differs rows rep offset k) prune n [] (start_box rows rep k)) (every_by differs rows rep offset k)
      (enumerates-same start-open (collect (dead differs rows rep offset k) prune n [] (start_box rows rep k))
      (collect-lists Sought' n (starts rows rep) (dead differs rows rep offset k) prune (dead-cuts differs rows rep offset k) p n [] (start_box rows rep k) (omega arith)
      (length-replicate n (starts rows rep))
      (tt, good-replicate n (starts rows rep) (starts-rising rows rep))))
      (every-sought differs rows rep offset k)
    where
      start-open : (a : List ℕ) → Sought' a ↔ Open Sought' [] (start_box rows rep k) a
      start-open a = (λ s. (open-replicate Sought' n (starts rows rep) a).0 (s.0, s.1, s), λ o. o.so)
