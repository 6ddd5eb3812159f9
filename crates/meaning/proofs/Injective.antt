-- A context is known from its text: the digits of a byte give the byte, and the first line feed ends a frame.
--     frame-one              two frames with what follows them agree only where both parts do
--     context_text-injective  two contexts with one text are one context
-- Assumes nothing.
use mathlib.Core.Bool.{Bool, true, false}
use mathlib.Core.List.{List, [], ◌∷◌, ◌++◌, append_assoc}
use mathlib.Core.Path.{◌≡◌, refl, ap₂, sym, ◌∙◌}
use mathlib.Core.Logic.{◌⊎◌, inl, inr, ⊎_elim}
use Prim.Native.Nat.{ℕ, suc, ◌+◌, ◌*◌, ◌≤◌, ◌<◌, ◌/◌, ◌%◌}
use native.Mathlib.Omega.{arith}
use native.Mathlib.Nat.{div-add-mod'}
use lib.Dec.{ltb}
use borrow.Author.Tests.{ltb-true, ltb-false}
use lib.ListN.{length}
use Rattle.meaning.specs.Context.{Row, Context, Statement, same, differ}
use Rattle.meaning.specs.Writing.{digit_of, hex, frame, rows_text, statements_text, context_text}

-- ---- digits

-- a digit's value and whether it is a figure or a letter
digit-cases : (v : ℕ) → ((v < 10) × (digit_of v ≡ 48 + v)) ⊎ ((10 ≤ v) × (digit_of v ≡ 55 + v))
unfolding digit_of
digit-cases v = go (ltb v 10) refl
  where
    go : (b : Bool) → ltb v 10 ≡ b → ((v < 10) × (digit_of v ≡ 48 + v)) ⊎ ((10 ≤ v) × (digit_of v ≡ 55 + v))
    go true e = inl (ltb-true v 10 e, rw (e, digit_of))
    go false e = inr (ltb-false v 10 e, rw (e, digit_of))

digit-one : (v w : ℕ) → digit_of v ≡ digit_of w → v ≡ w
digit-one v w e = go (digit-cases v) (digit-cases w)
  where
    go : ((v < 10) × (digit_of v ≡ 48 + v)) ⊎ ((10 ≤ v) × (digit_of v ≡ 55 + v)) → ((w < 10) × (digit_of w ≡ 48 + w)) ⊎ ((10 ≤ w) × (digit_of w ≡ 55 + w)) → v ≡ w
    go (inl a) (inl b) = omega (arith, a.1, b.1)
    go (inl a) (inr b) = omega (arith, a.0, a.1, b.0, b.1)
    go (inr a) (inl b) = omega (arith, a.0, a.1, b.0, b.1)
    go (inr a) (inr b) = omega (arith, a.1, b.1)

digit-high : (v : ℕ) → 48 ≤ digit_of v
digit-high v = ⊎_elim (λ a. omega (arith, a.1)) (λ a. omega (arith, a.1)) (digit-cases v)

byte_one : (b : ℕ) (x y : ℕ) → x / suc b ≡ y / suc b → x % suc b ≡ y % suc b → x ≡ y
byte_one b x y p q = sym (div-add-mod' x (suc b)) ∙ ap₂ (λ (k m : ℕ). k * suc b + m) p q ∙ div-add-mod' y (suc b)

-- ---- frames

pub frame-one : (l m x y : List ℕ) → frame l ++ x ≡ frame m ++ y → (l ≡ m) × (x ≡ y)
unfolding frame hex
frame-one [] [] x y e = (refl, cc)
frame-one [] (b ∷ m) x y e = absurd (let z : 10 ≡ digit_of (b / 16) = cc in omega (arith, digit-high (b / 16)))
frame-one (a ∷ l) [] x y e = absurd (let z : digit_of (a / 16) ≡ 10 = cc in omega (arith, digit-high (a / 16)))
frame-one (a ∷ l) (b ∷ m) x y e =
    let p : digit_of (a / 16) ≡ digit_of (b / 16) = cc in
    let q : digit_of (a % 16) ≡ digit_of (b % 16) = cc in
    let r : frame l ++ x ≡ frame m ++ y = cc in
    let w : (l ≡ m) × (x ≡ y) = frame-one l m x y r in
    (ap₂ ◌∷◌ (byte_one 15 a b (digit-one (a / 16) (b / 16) p) (digit-one (a % 16) (b % 16) q)) w.0, w.1)

frame-none : (l x : List ℕ) → frame l ++ x ≡ [] → ⊥
unfolding frame hex
frame-none [] x e = let z : ◌≡◌ {A = ℕ} 0 1 = cc in omega arith
frame-none (a ∷ l) x e = let z : ◌≡◌ {A = ℕ} 0 1 = cc in omega arith

-- ---- statements, which begin with 2 or 3

statements-one : (l m : List Statement) → statements_text l ≡ statements_text m → l ≡ m
unfolding statements_text
statements-one [] [] e = refl
statements-one [] (same p q ∷ m) e = absurd (frame-none _ _ (sym e))
statements-one [] (differ p q ∷ m) e = absurd (frame-none _ _ (sym e))
statements-one (same p q ∷ l) [] e = absurd (frame-none _ _ e)
statements-one (differ p q ∷ l) [] e = absurd (frame-none _ _ e)
statements-one (same p q ∷ l) (same r s ∷ m) e =
    let w : (2 ∷ p ∷ q ∷ [] ≡ 2 ∷ r ∷ s ∷ []) × (statements_text l ≡ statements_text m) = frame-one _ _ _ _ e in
    let h : 2 ∷ p ∷ q ∷ [] ≡ 2 ∷ r ∷ s ∷ [] = w.0 in
    let i : same p q ≡ same r s = cc in
    ap₂ ◌∷◌ i (statements-one l m w.1)
statements-one (same p q ∷ l) (differ r s ∷ m) e =
    let h : 2 ∷ p ∷ q ∷ [] ≡ 3 ∷ r ∷ s ∷ [] = (frame-one _ _ _ _ e).0 in
    absurd (let z : ◌≡◌ {A = ℕ} 2 3 = cc in omega arith)
statements-one (differ p q ∷ l) (same r s ∷ m) e =
    let h : 3 ∷ p ∷ q ∷ [] ≡ 2 ∷ r ∷ s ∷ [] = (frame-one _ _ _ _ e).0 in
    absurd (let z : ◌≡◌ {A = ℕ} 3 2 = cc in omega arith)
statements-one (differ p q ∷ l) (differ r s ∷ m) e =
    let w : (3 ∷ p ∷ q ∷ [] ≡ 3 ∷ r ∷ s ∷ []) × (statements_text l ≡ statements_text m) = frame-one _ _ _ _ e in
    let h : 3 ∷ p ∷ q ∷ [] ≡ 3 ∷ r ∷ s ∷ [] = w.0 in
    let i : differ p q ≡ differ r s = cc in
    ap₂ ◌∷◌ i (statements-one l m w.1)

-- ---- rows, which begin with 1

abbrev fields_of : Row → List ℕ
fields_of r = 1 ∷ r.symbol / 256 ∷ r.symbol % 256 ∷ length r.args ∷ r.args

fields-one : (r q : Row) → fields_of r ≡ fields_of q → r ≡ q
fields-one r q e =
    let h : r.symbol / 256 ≡ q.symbol / 256 = cc in
    let i : r.symbol % 256 ≡ q.symbol % 256 = cc in
    let j : r.args ≡ q.args = cc in
    ap₂ (λ (f : ℕ) (l : List ℕ). record { symbol = f; args = l }) (byte_one 255 r.symbol q.symbol h i) j

row-statements : (r : Row) (x : List ℕ) (l : List Statement) → frame (fields_of r) ++ x ≡ statements_text l → ⊥
unfolding statements_text
row-statements r x [] e = frame-none (fields_of r) x e
row-statements r x (same p q ∷ l) e =
    let h : fields_of r ≡ 2 ∷ p ∷ q ∷ [] = (frame-one _ _ _ _ e).0 in
    let z : ◌≡◌ {A = ℕ} 1 2 = cc in
    omega arith
row-statements r x (differ p q ∷ l) e =
    let h : fields_of r ≡ 3 ∷ p ∷ q ∷ [] = (frame-one _ _ _ _ e).0 in
    let z : ◌≡◌ {A = ℕ} 1 3 = cc in
    omega arith

rows-one : (rs qs : List Row) (l m : List Statement) → rows_text rs ++ statements_text l ≡ rows_text qs ++ statements_text m → (rs ≡ qs) × (l ≡ m)
unfolding rows_text
rows-one [] [] l m e = (refl, statements-one l m e)
rows-one [] (q ∷ qs) l m e =
    absurd (row-statements q (rows_text qs ++ statements_text m) l (sym (append_assoc (frame (fields_of q)) (rows_text qs) (statements_text m)) ∙ sym e))
rows-one (r ∷ rs) [] l m e =
    absurd (row-statements r (rows_text rs ++ statements_text l) m (sym (append_assoc (frame (fields_of r)) (rows_text rs) (statements_text l)) ∙ e))
rows-one (r ∷ rs) (q ∷ qs) l m e =
    let w : (fields_of r ≡ fields_of q) × (rows_text rs ++ statements_text l ≡ rows_text qs ++ statements_text m) =
    frame-one (fields_of r) (fields_of q) (rows_text rs ++ statements_text l) (rows_text qs ++ statements_text m)
    (sym (append_assoc (frame (fields_of r)) (rows_text rs) (statements_text l)) ∙ e ∙ append_assoc (frame (fields_of q)) (rows_text qs) (statements_text m)) in
    let i : (rs ≡ qs) × (l ≡ m) = rows-one rs qs l m w.1 in
    (ap₂ ◌∷◌ (fields-one r q w.0) i.0, i.1)

pub context_text-injective : (c d : Context) → context_text c ≡ context_text d → c ≡ d
unfolding context_text
context_text-injective c d e =
    let w : (c.rows ≡ d.rows) × (c.statements ≡ d.statements) = rows-one c.rows d.rows c.statements d.statements e in
    ap₂ (λ (r : List Row) (l : List Statement). record { rows = r; statements = l }) w.0 w.1
