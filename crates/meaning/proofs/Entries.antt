-- The entries of a context and a clause under an assignment: their terms are the rows' terms and then the instances, and arguments stand before their entry.
--     entries-terms            the terms of the entries
--     entry_row, entry-instance   the term at a context row's entry and at a pattern row's
--     entries-ordered          arguments are earlier entries
-- Assumes nothing.
use mathlib.Core.Bool.{Bool, true, false}
use mathlib.Core.List.{List, [], ◌∷◌, ◌++◌, map, append_assoc, append-nil}
use mathlib.Core.Path.{◌≡◌, refl, ap, ap₂, sym, ◌∙◌, subst}
use Prim.Native.Nat.{ℕ, zero, suc, ◌+◌, ◌-◌, ◌≤◌, ◌<◌}
use native.Mathlib.Omega.{arith}
use lib.Dec.{ltb}
use borrow.Author.Tests.{ltb-true, ltb-false}
use lib.ListN.{length, get_or, length-append, get_or-append}
use lib.Seq.{get_or-append-add}
use Rattle.meaning.specs.Context.{Term, node, more, Row, row₀, term₀, row_at, pick, grow, terms, term_at}
use Rattle.meaning.specs.Rules.{Pattern, variable, apply, variables, instance, fill, instances, choice, Below}
use Rattle.meaning.specs.Formed.{Ordered, Placed, AllPlaced}
use Rattle.meaning.specs.Grounds.{Each}
use Rattle.meaning.specs.Checking.{entry_of, entries}
use Rattle.meaning.proofs.Lists.{below_wider}
use Rattle.meaning.proofs.Table.{length-terms, term-at}
use Rattle.meaning.proofs.Levels.{placed_at}

-- ---- lists

pub length-map : {A B : Type 0} (f : A → B) (l : List A) → length (map f l) ≡ length l
length-map f [] = refl
length-map f (x ∷ l) = ap suc (length-map f l)

grow-append : (done : List Term) (rs qs : List Row) → grow done (rs ++ qs) ≡ grow (grow done rs) qs
unfolding grow
grow-append done [] qs = refl
grow-append done (r ∷ rs) qs = grow-append (done ++ (node r.symbol (pick done r.args) ∷ [])) rs qs

pick-front : (ts us : List Term) (l : List ℕ) → Below (length ts) l → pick (ts ++ us) l ≡ pick ts l
unfolding pick
pick-front ts us [] b = refl
pick-front ts us (a ∷ l) b = ap₂ more (get_or-append ts us term₀ a b.0) (pick-front ts us l b.1)

pick-shift : (ts us : List Term) (n : ℕ) → length ts ≡ n → (l : List ℕ) → pick (ts ++ us) (map (λ p. n + p) l) ≡ pick us l
unfolding pick
pick-shift ts us n e [] = refl
pick-shift ts us n e (p ∷ l) = ap₂ more (ap (λ (x : ℕ). get_or (ts ++ us) (x + p) term₀) (sym e) ∙ get_or-append-add ts us p term₀) (pick-shift ts us n e l)

-- ---- terms

module _ (rows : List Row) (a : List ℕ) (ordered : Ordered rows) where
  abbrev Chosen : ℕ → Type 0
  Chosen v = (v < length a) × (get_or a v 0 < length rows)

  chosen_at : (b : List ℕ) (v : ℕ) → v < length b → get_or (choice (terms rows) b) v term₀ ≡ term_at rows (get_or b v 0)
  chosen_at [] v h = absurd (omega arith)
  chosen_at (x ∷ b) zero h = refl
  chosen_at (x ∷ b) (suc v) h = chosen_at b v (omega arith)

  -- a pattern row's entry, after the context's terms and the instances before it
  entry-term : (done : List Term) (p : Pattern) → Each (variables (p ∷ [])) Chosen
      → node (entry_of rows a p).symbol (pick (terms rows ++ done) (entry_of rows a p).args) ≡ instance (choice (terms rows) a) done p
  unfolding entry_of instance variables
  entry-term done (variable v) w =
      let h : (v < length a) × (get_or a v 0 < length rows) = w v (omega arith) in
      let l : Below (length (terms rows)) (row_at rows (get_or a v 0)).args =
      below_wider (get_or a v 0) (length (terms rows)) (row_at rows (get_or a v 0)).args (omega (arith, length-terms rows, h.1)) (ordered (get_or a v 0) h.1) in
      rw (pick-front (terms rows) done (row_at rows (get_or a v 0)).args l) (sym (term-at rows ordered (get_or a v 0) h.1))
      ∙ sym (chosen_at a v h.0)
  entry-term done (apply f l) w = ap (node f) (pick-shift (terms rows) done (length rows) (length-terms rows) l)

  grow-fill : (done : List Term) (ps : List Pattern) → Each (variables ps) Chosen
      → grow (terms rows ++ done) (map (entry_of rows a) ps) ≡ terms rows ++ fill (choice (terms rows) a) done ps
  unfolding grow fill variables
  grow-fill done [] w = refl
  grow-fill done (p ∷ ps) w =
      ap (λ (x : List Term). grow x (map (entry_of rows a) ps))
      (append_assoc (terms rows) done _ ∙ ap (λ (t : Term). terms rows ++ (done ++ (t ∷ []))) (entry-term done p (here p w)))
      ∙ grow-fill (done ++ (instance (choice (terms rows) a) done p ∷ [])) ps (later p w)
    where
      here : (q : Pattern) → Each (variables (q ∷ ps)) Chosen → Each (variables (q ∷ [])) Chosen
      here (variable v) x i h = x i (omega arith)
      here (apply f l) x i h = absurd (omega arith)

      later : (q : Pattern) → Each (variables (q ∷ ps)) Chosen → Each (variables ps) Chosen
      later (variable v) x i h = x i (omega arith)
      later (apply f l) x i h = x i h

  module _ (ps : List Pattern) (chosen : Each (variables ps) Chosen) where
    pub entries-terms : terms (entries rows a ps) ≡ terms rows ++ instances ps (choice (terms rows) a)
    unfolding entries terms instances
    entries-terms =
        grow-append [] rows (map (entry_of rows a) ps)
        ∙ ap (λ (x : List Term). grow x (map (entry_of rows a) ps)) (sym (append-nil (terms rows)))
        ∙ grow-fill [] ps chosen

    pub entry_row : (i : ℕ) → i < length rows → term_at (entries rows a ps) i ≡ term_at rows i
    entry_row i h =
        ap (λ (x : List Term). get_or x i term₀) entries-terms ∙ get_or-append (terms rows) _ term₀ i (omega (arith, length-terms rows))

    pub entry-instance : (p : ℕ) → term_at (entries rows a ps) (length rows + p) ≡ get_or (instances ps (choice (terms rows) a)) p term₀
    entry-instance p =
        ap (λ (x : List Term). get_or x (length rows + p) term₀) entries-terms
        ∙ ap (λ (x : ℕ). get_or (terms rows ++ instances ps (choice (terms rows) a)) (x + p) term₀) (sym (length-terms rows))
        ∙ get_or-append-add (terms rows) _ p term₀

-- ---- order

pub length-entries : (rows : List Row) (a : List ℕ) (ps : List Pattern) → length (entries rows a ps) ≡ length rows + length ps
unfolding entries
length-entries rows a ps = length-append rows (map (entry_of rows a) ps) ∙ ap (λ (x : ℕ). length rows + x) (length-map (entry_of rows a) ps)

pub entry-front : (rows : List Row) (a : List ℕ) (ps : List Pattern) (i : ℕ) → i < length rows → row_at (entries rows a ps) i ≡ row_at rows i
unfolding entries
entry-front rows a ps i h = get_or-append rows _ row₀ i h

pub map_at : {A B : Type 0} (f : A → B) (l : List A) (i : ℕ) (d : A) (e : B) → i < length l → get_or (map f l) i e ≡ f (get_or l i d)
map_at f [] i d e h = absurd (omega arith)
map_at f (x ∷ l) zero d e h = refl
map_at f (x ∷ l) (suc i) d e h = map_at f l i d e (omega arith)

pub entry-back : (rows : List Row) (a : List ℕ) (ps : List Pattern) (p : ℕ) → p < length ps
    → row_at (entries rows a ps) (length rows + p) ≡ entry_of rows a (get_or ps p (variable 0))
unfolding entries
entry-back rows a ps p h = get_or-append-add rows (map (entry_of rows a) ps) p row₀ ∙ map_at (entry_of rows a) ps p (variable 0) row₀ h

below-shift : (n m : ℕ) (l : List ℕ) → Below m l → Below (n + m) (map (λ p. n + p) l)
below-shift n m [] b = tt
below-shift n m (p ∷ l) b = (omega (arith, b.0), below-shift n m l b.1)

entry-below : (rows : List Row) (a : List ℕ) → Ordered rows → (q : ℕ) (p : Pattern) → Each (variables (p ∷ [])) (λ v. (v < length a) × (get_or a v 0 < length rows)) → Placed q p
    → Below (length rows + q) (entry_of rows a p).args
unfolding entry_of variables
entry-below rows a ordered q (variable v) w b =
    let h : get_or a v 0 < length rows = (w v (omega arith)).1 in below_wider (get_or a v 0) (length rows + q) (row_at rows (get_or a v 0)).args (omega arith) (ordered (get_or a v 0) h)
entry-below rows a ordered q (apply f l) w b = below-shift (length rows) q l b

-- a variable of a pattern row is one of the clause's
pub variable-counted : (ps : List Pattern) (p : ℕ) → p < length ps → variables (get_or ps p (variable 0) ∷ []) ≤ variables ps
unfolding variables
variable-counted [] p h = absurd (omega arith)
variable-counted (variable v ∷ ps) zero h = omega arith
variable-counted (apply f l ∷ ps) zero h = omega arith
variable-counted (variable v ∷ ps) (suc p) h = omega (arith, variable-counted ps p (omega arith))
variable-counted (apply f l ∷ ps) (suc p) h = variable-counted ps p (omega arith)

pub entries-ordered : (rows : List Row) (a : List ℕ) (ps : List Pattern) → Ordered rows → AllPlaced 0 ps → Each (variables ps) (λ v. (v < length a) × (get_or a v 0 < length rows))
    → Ordered (entries rows a ps)
entries-ordered rows a ps ordered placed w i h = go (ltb i (length rows)) refl
  where
    go : (b : Bool) → ltb i (length rows) ≡ b → Below i (row_at (entries rows a ps) i).args
    go true e = rw (entry-front rows a ps i (ltb-true i (length rows) e)) (ordered i (ltb-true i (length rows) e))
    go false e =
        let l : length rows ≤ i = ltb-false i (length rows) e in
        let q : ℕ = i - length rows in
        let z : length rows + q ≡ i = omega arith in
        let k : q < length ps = omega (arith, length-entries rows a ps) in
        subst (λ (x : ℕ). Below x (row_at (entries rows a ps) x).args) z
        (rw (entry-back rows a ps q k) (entry-below rows a ordered q (get_or ps q (variable 0)) (λ v b. w v (omega (arith, variable-counted ps q k))) (subst (λ (x : ℕ). Placed x (get_or ps q (variable 0))) (omega arith) (placed_at 0 ps placed q k))))
