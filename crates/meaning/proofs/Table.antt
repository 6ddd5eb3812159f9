-- The term at a row is its symbol over the terms at its arguments' rows, where arguments stand before their row.
-- Assumes nothing.
use mathlib.Core.List.{List, [], ◌∷◌, ◌++◌}
use mathlib.Core.Path.{◌≡◌, refl, ap, ap₂, sym, ◌∙◌, subst}
use Prim.Native.Nat.{ℕ, zero, suc, ◌+◌, ◌<◌}
use native.Mathlib.Omega.{arith}
use lib.ListN.{length, get_or, get_or-append}
use lib.Seq.{get_or-append_seam}
use Rattle.meaning.specs.Context.{grow, Term, Row, node, pick, terms, term₀, more, row_at, term_at}
use Rattle.meaning.specs.Rules.{Below}
use Rattle.meaning.specs.Formed.{Ordered}
use Rattle.meaning.proofs.Lists.{length-snoc}

pub length-grow : (done : List Term) (rs : List Row) → length (grow done rs) ≡ length done + length rs
unfolding grow
length-grow done [] = omega arith
length-grow done (r ∷ rs) = omega (arith, length-grow (done ++ (node r.symbol (pick done r.args) ∷ [])) rs, length-snoc done (node r.symbol (pick done r.args)))

pub length-terms : (rows : List Row) → length (terms rows) ≡ length rows
unfolding terms
length-terms rows = omega (arith, length-grow [] rows)

grow-keeps : (done : List Term) (rs : List Row) (i : ℕ) → i < length done → get_or (grow done rs) i term₀ ≡ get_or done i term₀
unfolding grow
grow-keeps done [] i h = refl
grow-keeps done (r ∷ rs) i h =
    grow-keeps (done ++ (node r.symbol (pick done r.args) ∷ [])) rs i (omega (arith, length-snoc done (node r.symbol (pick done r.args))))
    ∙ get_or-append done _ term₀ i h

pick-grow : (done : List Term) (rs : List Row) (l : List ℕ) → Below (length done) l → pick (grow done rs) l ≡ pick done l
unfolding pick
pick-grow done rs [] b = refl
pick-grow done rs (a ∷ l) b = ap₂ more (grow-keeps done rs a b.0) (pick-grow done rs l b.1)

grow-at : (done : List Term) (rs : List Row) → ((k : ℕ) → k < length rs → Below (length done + k) (row_at rs k).args)
    → (k : ℕ) → k < length rs
    → get_or (grow done rs) (length done + k) term₀ ≡ node (row_at rs k).symbol (pick (grow done rs) (row_at rs k).args)
unfolding grow
grow-at done [] w k h = absurd (omega arith)
grow-at done (r ∷ rs) w zero h =
    let x : Term = node r.symbol (pick done r.args) in
    let b : Below (length done) r.args = subst (λ (n : ℕ). Below n r.args) (omega arith) (w 0 (omega arith)) in
    ap (λ (n : ℕ). get_or (grow (done ++ (x ∷ [])) rs) n term₀) (omega arith)
    ∙ grow-keeps (done ++ (x ∷ [])) rs (length done) (omega (arith, length-snoc done x))
    ∙ get_or-append_seam done x [] term₀
    ∙ ap (node r.symbol) (sym (pick-grow done (r ∷ rs) r.args b))
grow-at done (r ∷ rs) w (suc k) h =
    let x : Term = node r.symbol (pick done r.args) in
    ap (λ (n : ℕ). get_or (grow (done ++ (x ∷ [])) rs) n term₀) (omega (arith, length-snoc done x))
    ∙ grow-at (done ++ (x ∷ [])) rs
    (λ j hj. subst (λ (n : ℕ). Below n (row_at rs j).args) (omega (arith, length-snoc done x)) (w (suc j) (omega arith)))
    k
    (omega arith)

pub term-at : (rows : List Row) → Ordered rows → (i : ℕ) → i < length rows
    → term_at rows i ≡ node (row_at rows i).symbol (pick (terms rows) (row_at rows i).args)
unfolding terms
term-at rows w i h =
    ap (λ (n : ℕ). get_or (grow [] rows) n term₀) (omega arith)
    ∙ grow-at [] rows (λ k hk. subst (λ (n : ℕ). Below n (row_at rows k).args) (omega arith) (w k hk)) i h
