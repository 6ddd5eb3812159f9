-- A search over a box gives the first member of a set of assignments, by the promise of its cuts and its pruning alone.
--     search                        variable by variable, each through its open places; a choice that is dead is cut; the box is pruned at each choice
--     try_all-first                  the first member, where each place of the next variable gives the first of its own
--     Invariant, invariant-first    what a search keeps from choice to choice; then it gives the first member inside its box
--     search-same                   cuts that agree on the choices that the search comes to give one answer
--     Cuts, Prunes                  what a cut promises, and what a pruning promises
--     search-first                  a search whose cut and pruning keep their promises gives the first member inside its box
-- Assumes nothing.
use mathlib.Core.Bool.{Bool, true, false}
use mathlib.Core.List.{List, [], ◌∷◌, ◌++◌, append-nil}
use mathlib.Core.Path.{◌≡◌, refl, ap₂, sym, ◌∙◌}
use mathlib.Core.Logic.{inl, inr}
use Prim.Native.Nat.{ℕ, zero, suc, ◌+◌}
use native.Mathlib.Omega.{arith}
use lib.ListN.{length, length-append}
use Rattle.meaning.specs.Rules.{Found, nothing, found, First}
use Rattle.meaning.specs.FirstBy.{try_all, or_else}
use Rattle.meaning.proofs.Order.{Covers, split-found, split-later, before-not-self, covers-first}
use Rattle.meaning.proofs.Box.{Box, Mem, AllIn, Rising, Good, OfRows, of-rows-next, Open, open-split, open_none, open-leaf}

-- ---- the search

-- the first variable of a box
unfoldable pub try_box : (List ℕ → Box → Found) → List ℕ → Box → Found
try_box next chosen [] = nothing
try_box next chosen (l ∷ box) = try_all (λ c. next c box) chosen l

-- n variables are open; a choice that is dead is cut
unfoldable pub search : (List ℕ → Bool) → (List ℕ → Box → Box) → ℕ → List ℕ → Box → Found
search dead prune zero chosen box = elim (dead chosen) [ true ↦ nothing | false ↦ found chosen ]
search dead prune (suc n) chosen box = elim (dead chosen) [ true ↦ nothing | false ↦ try_box (search dead prune n) chosen (prune chosen box) ]

-- ---- the first member inside a box

module _ (So : List ℕ → Type 0) where
  pub try_all-first : (next : List ℕ → Found) (chosen l : List ℕ) (box : Box) → Rising l
      → ((x : ℕ) → Mem x l → First (Open So (chosen ++ (x ∷ [])) box) (next (chosen ++ (x ∷ []))))
      → First (Open So chosen (l ∷ box)) (try_all next chosen l)
  unfolding try_all or_else
  try_all-first next chosen [] box up each = open_none So chosen box
  try_all-first next chosen (x ∷ l) box up each =
      go (next (chosen ++ (x ∷ []))) (each x (inl refl)) (try_all-first next chosen l box up.1 (λ y m. each y (inr m)))
    where
      go : (r : Found) → First (Open So (chosen ++ (x ∷ [])) box) r → First (Open So chosen (l ∷ box)) (try_all next chosen l)
          → First (Open So chosen ((x ∷ l) ∷ box)) (or_else r (try_all next chosen l))
      go (found a) f rest = split-found (open-split So chosen x l box up.0) a f
      go nothing f rest = split-later (open-split So chosen x l box up.0) f (try_all next chosen l) rest

-- ---- the search, by an invariant of its choices

-- Reached holds of each choice that the search comes to, and of the box that it then has
pub record Invariant (So : List ℕ → Type 0) (total : ℕ) (Reached : List ℕ → Box → Type 0) (dead : List ℕ → Bool) (prune : List ℕ → Box → Box) : Type 0 where
  -- a choice that is dead begins no member
  pub cut : (chosen : List ℕ) → dead chosen ≡ true → (rest : List ℕ) → So (chosen ++ rest) → ⊥
  -- a whole choice that is not dead is a member
  pub leaf : (a : List ℕ) → length a ≡ total → Reached a [] → dead a ≡ false → So a
  -- for each member inside the box the new box has one that is no later
  pub covers : (chosen : List ℕ) (box : Box) → Reached chosen box → Covers (Open So chosen box) (Open So chosen (prune chosen box))
  pub long : (chosen : List ℕ) (box : Box) → length (prune chosen box) ≡ length box
  -- the places of the next variable rise, and each may be chosen
  pub next : (chosen : List ℕ) (box : Box) → Reached chosen box → (l : List ℕ) (new : Box) → prune chosen box ≡ l ∷ new
      → Rising l × ((x : ℕ) → Mem x l → Reached (chosen ++ (x ∷ [])) new)

module _ (So : List ℕ → Type 0) {total : ℕ} {Reached : List ℕ → Box → Type 0} {dead : List ℕ → Bool} {prune : List ℕ → Box → Box} (p : Invariant So total Reached dead prune) where
  -- the search gives the first member inside its box
  pub invariant-first : (n : ℕ) (chosen : List ℕ) (box : Box) → length chosen + n ≡ total → length box ≡ n → Reached chosen box
      → First (Open So chosen box) (search dead prune n chosen box)
  unfolding search try_box
  invariant-first zero chosen [] t h i = go (dead chosen) refl
    where
      go : (d : Bool) → dead chosen ≡ d → First (Open So chosen []) (search dead prune zero chosen [])
      go true e = rw (e, search) (λ a o. p.cut chosen e o.rest (rw o.whole at o.so))
      go false e =
          rw (e, search) (
            record { rest = []; whole = sym (append-nil chosen); inside = tt; so = p.leaf chosen (omega arith) i e },
            λ a o w. before-not-self chosen (rw (open-leaf So chosen a o) at w),
          )
  invariant-first zero chosen (l ∷ box) t h i = absurd (omega arith)
  invariant-first (suc n) chosen box t h i = go (dead chosen) refl (invariant-first n)
    where
      go : (d : Bool) → dead chosen ≡ d
          → ((c : List ℕ) (x : Box) → length c + n ≡ total → length x ≡ n → Reached c x → First (Open So c x) (search dead prune n c x))
          → First (Open So chosen box) (search dead prune (suc n) chosen box)
      go true e ih = rw (e, search) (λ a o. p.cut chosen e o.rest (rw o.whole at o.so))
      go false e ih =
          rw (e, search) (covers-first (p.covers chosen box i) (try_box (search dead prune n) chosen (prune chosen box)) (inner (prune chosen box) refl (p.long chosen box ∙ h)))
        where
          inner : (new : Box) → prune chosen box ≡ new → length new ≡ suc n → First (Open So chosen new) (try_box (search dead prune n) chosen new)
          inner [] f ln = absurd (omega arith)
          inner (l ∷ new) f ln =
              try_all-first So (λ c. search dead prune n c new) chosen l new (p.next chosen box i l new f).0
              (λ x m. ih (chosen ++ (x ∷ [])) new (omega (arith, length-append chosen (x ∷ []))) (omega arith) ((p.next chosen box i l new f).1 x m))

-- ---- two cuts that agree on the choices that a search comes to

try_all-same : (next other : List ℕ → Found) (chosen l : List ℕ) → ((x : ℕ) → next (chosen ++ (x ∷ [])) ≡ other (chosen ++ (x ∷ [])))
    → try_all next chosen l ≡ try_all other chosen l
unfolding try_all
try_all-same next other chosen [] f = refl
try_all-same next other chosen (x ∷ l) f = ap₂ or_else (f x) (try_all-same next other chosen l f)

module _ (dead late : List ℕ → Bool) (prune : List ℕ → Box → Box) (Reached : List ℕ → Type 0)
    (same : (chosen : List ℕ) → Reached chosen → dead chosen ≡ late chosen)
    (next : (chosen : List ℕ) → Reached chosen → dead chosen ≡ false → (x : ℕ) → Reached (chosen ++ (x ∷ []))) where
  try_box-same : (n : ℕ) (chosen : List ℕ) (box : Box)
      → ((x : ℕ) (new : Box) → search dead prune n (chosen ++ (x ∷ [])) new ≡ search late prune n (chosen ++ (x ∷ [])) new)
      → try_box (search dead prune n) chosen box ≡ try_box (search late prune n) chosen box
  unfolding try_box
  try_box-same n chosen [] f = refl
  try_box-same n chosen (l ∷ box) f = try_all-same (λ c. search dead prune n c box) (λ c. search late prune n c box) chosen l (λ x. f x box)

  pub search-same : (n : ℕ) (chosen : List ℕ) (box : Box) → Reached chosen → search dead prune n chosen box ≡ search late prune n chosen box
  unfolding search
  search-same zero chosen box r = rw (same chosen r, search) refl
  search-same (suc n) chosen box r = go (dead chosen) refl (λ c x. search-same n c x)
    where
      go : (b : Bool) → dead chosen ≡ b → ((c : List ℕ) (x : Box) → Reached c → search dead prune n c x ≡ search late prune n c x)
          → search dead prune (suc n) chosen box ≡ search late prune (suc n) chosen box
      go true e ih = let f : late chosen ≡ true = sym (same chosen r) ∙ e in rw (e, f, search) refl
      go false e ih =
          let f : late chosen ≡ false = sym (same chosen r) ∙ e in
          rw (e, f, search) (try_box-same n chosen (prune chosen box) (λ x new. ih (chosen ++ (x ∷ [])) new (next chosen r e x)))

-- ---- the search within some rows

-- what a cut promises
pub record Cuts (So : List ℕ → Type 0) (total : ℕ) (rows : List ℕ) (dead : List ℕ → Bool) : Type 0 where
  -- a choice that is dead begins no member
  pub cut : (chosen : List ℕ) → dead chosen ≡ true → (rest : List ℕ) → So (chosen ++ rest) → ⊥
  -- a whole choice of rows that is not dead is a member
  pub leaf : (a : List ℕ) → length a ≡ total → AllIn rows a → dead a ≡ false → So a

-- what a pruning promises: for each member inside the box the new box has one that is no later
pub record Prunes (So : List ℕ → Type 0) (rows : List ℕ) (prune : List ℕ → Box → Box) : Type 0 where
  pub covers : (chosen : List ℕ) (box : Box) → OfRows rows chosen box → Covers (Open So chosen box) (Open So chosen (prune chosen box))
  pub good : (chosen : List ℕ) (box : Box) → Good rows box → Good rows (prune chosen box)
  pub long : (chosen : List ℕ) (box : Box) → length (prune chosen box) ≡ length box

module _ (So : List ℕ → Type 0) (total : ℕ) (rows : List ℕ) (dead : List ℕ → Bool) (prune : List ℕ → Box → Box) where
  of-rows-invariant : Cuts So total rows dead → Prunes So rows prune → Invariant So total (OfRows rows) dead prune
  of-rows-invariant c p =
      record {
        cut = c.cut;
        leaf = λ a h w. c.leaf a h w.0;
        covers = p.covers;
        long = p.long;
        next = λ chosen box w l new e.
            let g : Good rows (l ∷ new) = rw e at (p.good chosen box w.1) in
            (g.0.0, of-rows-next rows chosen l new w.0 g);
      }

  -- the search law
  pub search-first : Cuts So total rows dead → Prunes So rows prune → (box : Box) → length box ≡ total → Good rows box
      → First (Open So [] box) (search dead prune total [] box)
  search-first c p box h g = invariant-first So (of-rows-invariant c p) total [] box (omega arith) h (tt, g)
