-- Columns with unused places 0 say what they were made of.
--     pad-at                            a padded column reads as the list does, also past its end
--     context-columns, clause-columns   the context and the clause of padded columns are the ones whose columns they are
-- Assumes nothing.
use mathlib.Core.List.{List, [], ◌∷◌, ◌++◌, map, append_assoc}
use mathlib.Core.Path.{◌≡◌, refl, ap, ap₂, sym, ◌∙◌}
use Prim.Native.Nat.{ℕ, zero, suc, ◌+◌, ◌-◌, ◌*◌, ◌≤◌, ◌<◌}
use native.Mathlib.Omega.{arith}
use lib.ListN.{length, get_or, take, drop, replicate, length-append, length-replicate, length-map, get_or-map}
use lib.Seq.{take-suc, take-length, take-append_seam}
use Rattle.meaning.specs.Context.{Row, row₀, row_at, Statement, same, differ, Context}
use Rattle.meaning.specs.Rules.{Pattern, variable, apply, Literal, equal, unequal, Clause}
use Rattle.meaning.specs.Formed.{left_of, right_of}
use Rattle.meaning.specs.Values.{pattern₀, pattern_at}
use Rattle.meaning.specs.Columns.{row_from, args_at, rows_from, statement_of, statements_from, context_from, pattern_of, patterns_from, literal_of, literals_from, clause_from, pad, fours, symbols_of, counts_of, arguments_of, kind_of, first_of, second_of, pattern_kind, head_of, args_in, literal_kind}

zeros-at : (n i : ℕ) → ◌≡◌ {A = ℕ} (get_or (replicate n 0) i 0) 0
zeros-at zero i = refl
zeros-at (suc n) zero = refl
zeros-at (suc n) (suc i) = zeros-at n i

tail_at : (l : List ℕ) (n i : ℕ) → get_or (l ++ replicate n 0) i 0 ≡ get_or l i 0
tail_at [] n i = zeros-at n i
tail_at (a ∷ l) n zero = refl
tail_at (a ∷ l) n (suc i) = tail_at l n i

pub pad-at : (n : ℕ) (l : List ℕ) (i : ℕ) → get_or (pad n l) i 0 ≡ get_or l i 0
unfolding pad
pad-at n l i = tail_at l (n - length l) i

-- a list that grows by one element at a time is the list with these elements
grown : {A : Type 0} (d : A) (g : ℕ → List A) (f : ℕ → A) → g 0 ≡ [] → ((n : ℕ) → g (suc n) ≡ g n ++ (f n ∷ []))
    → (l : List A) → ((i : ℕ) → i < length l → f i ≡ get_or l i d) → (n : ℕ) → n ≤ length l → g n ≡ take n l
grown d g f z s l h zero b = z
grown d g f z s l h (suc n) b =
    let e : get_or l n d ≡ f n = sym (h n (omega arith)) in
    s n ∙ ap₂ (λ (x : List _) (y : _). x ++ (y ∷ [])) (grown d g f z s l h n (omega arith)) (h n (omega arith)) ∙ sym (take-suc l n d (omega arith))

grown-all : {A : Type 0} (d : A) (g : ℕ → List A) (f : ℕ → A) → g 0 ≡ [] → ((n : ℕ) → g (suc n) ≡ g n ++ (f n ∷ []))
    → (l : List A) → ((i : ℕ) → i < length l → f i ≡ get_or l i d) → g (length l) ≡ l
grown-all d g f z s l h = grown d g f z s l h (length l) (omega arith) ∙ take-length l

-- ---- arguments

-- each list has at most four elements
abbrev pub Short : List (List ℕ) → Type 0
Short l = (i : ℕ) → i < length l → length (get_or l i []) ≤ 4

length-four : (a : List ℕ) → length a ≤ 4 → length (pad 4 a) ≡ 4
unfolding pad
length-four a h = omega (arith, length-append a (replicate (4 - length a) 0), length-replicate {A = ℕ} (4 - length a) 0)

-- past one group of four
drop-four : (a b : List ℕ) (n : ℕ) → length a ≤ 4 → drop (4 + n) (pad 4 a ++ b) ≡ drop n b
drop-four a b n h =
    let e : 4 + n ≡ length (pad 4 a) + n = omega (arith, length-four a h) in
    rw e (drop_past (pad 4 a))
  where
    drop_past : (x : List ℕ) → drop (length x + n) (x ++ b) ≡ drop n b
    drop_past [] = let z : 0 + n ≡ n = omega arith in rw z
    drop_past (y ∷ x) = let z : suc (length x) + n ≡ suc (length x + n) = omega arith in rw z (drop_past x)

take_own : (a b : List ℕ) → take (length a) (pad 4 a ++ b) ≡ a
unfolding pad
take_own a b = rw (append_assoc a (replicate (4 - length a) 0) b) (take-append_seam a (replicate (4 - length a) 0 ++ b))

fours-at : (l : List (List ℕ)) (z : List ℕ) → Short l → (i : ℕ) → i < length l → take (length (get_or l i [])) (drop (i * 4) (fours l ++ z)) ≡ get_or l i []
unfolding fours
fours-at [] z s i h = absurd (omega arith)
fours-at (a ∷ l) z s zero h = rw (append_assoc (pad 4 a) (fours l) z) (take_own a (fours l ++ z))
fours-at (a ∷ l) z s (suc i) h =
    let e : suc i * 4 ≡ 4 + i * 4 = omega arith in
    rw (append_assoc (pad 4 a) (fours l) z, e, drop-four a (fours l ++ z) (i * 4) (s 0 (omega arith)))
    (fours-at l z (λ j k. s (suc j) (omega arith)) i (omega arith))

args-back : (n m : ℕ) (l : List (List ℕ)) → Short l → (counts : List ℕ) → ((i : ℕ) → i < length l → get_or counts i 0 ≡ length (get_or l i []))
    → (i : ℕ) → i < length l → args_at (pad n counts) (pad m (fours l)) i ≡ get_or l i []
unfolding pad
args-back n m l s counts c i h =
    let e : get_or (counts ++ replicate (n - length counts) 0) i 0 ≡ length (get_or l i []) = tail_at counts (n - length counts) i ∙ c i h in
    rw e (fours-at l (replicate (m - length (fours l)) 0) s i h)

-- ---- contexts

rows_back : (rows : List Row) → Short (map (λ r. r.args) rows)
    → rows_from (pad 255 (symbols_of rows)) (pad 255 (counts_of rows)) (pad 1020 (arguments_of rows)) (length rows) ≡ rows
unfolding rows_from
rows_back rows s =
    grown-all row₀ (rows_from (pad 255 (symbols_of rows)) (pad 255 (counts_of rows)) (pad 1020 (arguments_of rows)))
    (row_from (pad 255 (symbols_of rows)) (pad 255 (counts_of rows)) (pad 1020 (arguments_of rows))) refl (λ n. refl) rows each
  where
    each : (i : ℕ) → i < length rows → row_from (pad 255 (symbols_of rows)) (pad 255 (counts_of rows)) (pad 1020 (arguments_of rows)) i ≡ row_at rows i
    each i h =
        let f : get_or (pad 255 (symbols_of rows)) i 0 ≡ (row_at rows i).symbol = pad-at 255 (symbols_of rows) i ∙ get_or-map (λ r. r.symbol) rows i row₀ in
        let a : args_at (pad 255 (counts_of rows)) (pad 1020 (arguments_of rows)) i ≡ (row_at rows i).args =
        args-back 255 1020 (map (λ r. r.args) rows) s (counts_of rows) counted i (omega (arith, length-map rows (λ (r : Row). r.args))) ∙ get_or-map (λ r. r.args) rows i row₀ in
        rw (f, a)
      where
        counted : (j : ℕ) → j < length (map (λ (r : Row). r.args) rows) → get_or (counts_of rows) j 0 ≡ length (get_or (map (λ (r : Row). r.args) rows) j [])
        counted j k = get_or-map (λ r. length r.args) rows j row₀ ∙ ap length (sym (get_or-map (λ r. r.args) rows j row₀))

statement-back : (s : Statement) → statement_of (kind_of s) (first_of s) (second_of s) ≡ s
unfolding statement_of
statement-back (same p q) = refl
statement-back (differ p q) = refl

-- past the last statement: what the zeros of the columns say
abbrev statement₀ : Statement
statement₀ = differ 0 0

statements-back : (l : List Statement) (n : ℕ) → statements_from (pad n (map kind_of l)) (pad n (map first_of l)) (pad n (map second_of l)) (length l) ≡ l
unfolding statements_from
statements-back l n =
    grown-all statement₀ (statements_from (pad n (map kind_of l)) (pad n (map first_of l)) (pad n (map second_of l)))
    (λ i. statement_of (get_or (pad n (map kind_of l)) i 0) (get_or (pad n (map first_of l)) i 0) (get_or (pad n (map second_of l)) i 0)) refl (λ m. refl) l each
  where
    each : (i : ℕ) → i < length l → statement_of (get_or (pad n (map kind_of l)) i 0) (get_or (pad n (map first_of l)) i 0) (get_or (pad n (map second_of l)) i 0) ≡ get_or l i statement₀
    each i h =
        rw (pad-at n (map kind_of l) i, pad-at n (map first_of l) i, pad-at n (map second_of l) i, mapped kind_of l i h, mapped first_of l i h, mapped second_of l i h)
        (statement-back (get_or l i statement₀))
      where
        mapped : (f : Statement → ℕ) (m : List Statement) (j : ℕ) → j < length m → get_or (map f m) j 0 ≡ f (get_or m j statement₀)
        mapped f [] j k = absurd (omega arith)
        mapped f (x ∷ m) zero k = refl
        mapped f (x ∷ m) (suc j) k = mapped f m j (omega arith)

pub context-columns : (c : Context) → Short (map (λ r. r.args) c.rows)
    → context_from (pad 255 (symbols_of c.rows)) (pad 255 (counts_of c.rows)) (pad 1020 (arguments_of c.rows)) (length c.rows)
    (pad 510 (map kind_of c.statements))
    (pad 510 (map first_of c.statements))
    (pad 510 (map second_of c.statements))
    (length c.statements)
    ≡ c
unfolding context_from
context-columns c s = ap₂ (λ (r : List Row) (l : List Statement). record { rows = r; statements = l }) (rows_back c.rows s) (statements-back c.statements 510)

-- ---- clauses

pattern-back : (p : Pattern) (l : List ℕ) → l ≡ args_in p → pattern_of (pattern_kind p) (head_of p) l ≡ p
unfolding pattern_of
pattern-back (variable v) l e = refl
pattern-back (apply f m) l e = ap (apply f) e

patterns-back : (ps : List Pattern) → Short (map args_in ps)
    → patterns_from (pad 64 (map pattern_kind ps)) (pad 64 (map head_of ps)) (pad 64 (map (λ p. length (args_in p)) ps)) (pad 256 (fours (map args_in ps))) (length ps) ≡ ps
unfolding patterns_from
patterns-back ps s =
    grown-all pattern₀ (patterns_from (pad 64 (map pattern_kind ps)) (pad 64 (map head_of ps)) (pad 64 (map (λ p. length (args_in p)) ps)) (pad 256 (fours (map args_in ps))))
    (λ i. pattern_of (get_or (pad 64 (map pattern_kind ps)) i 0) (get_or (pad 64 (map head_of ps)) i 0) (args_at (pad 64 (map (λ p. length (args_in p)) ps)) (pad 256 (fours (map args_in ps))) i)) refl (λ n. refl) ps each
  where
    mapped : (f : Pattern → ℕ) (m : List Pattern) (j : ℕ) → j < length m → get_or (map f m) j 0 ≡ f (pattern_at m j)
    mapped f [] j k = absurd (omega arith)
    mapped f (x ∷ m) zero k = refl
    mapped f (x ∷ m) (suc j) k = mapped f m j (omega arith)

    counted : (j : ℕ) → j < length (map args_in ps) → get_or (map (λ p. length (args_in p)) ps) j 0 ≡ length (get_or (map args_in ps) j [])
    counted j k =
        mapped (λ p. length (args_in p)) ps j (omega (arith, length-map ps args_in)) ∙ ap length (sym (get_or-map args_in ps j pattern₀))

    each : (i : ℕ) → i < length ps
        → pattern_of (get_or (pad 64 (map pattern_kind ps)) i 0) (get_or (pad 64 (map head_of ps)) i 0) (args_at (pad 64 (map (λ p. length (args_in p)) ps)) (pad 256 (fours (map args_in ps))) i) ≡ pattern_at ps i
    each i h =
        let a : args_at (pad 64 (map (λ p. length (args_in p)) ps)) (pad 256 (fours (map args_in ps))) i ≡ args_in (pattern_at ps i) =
        args-back 64 256 (map args_in ps) s (map (λ p. length (args_in p)) ps) counted i (omega (arith, length-map ps args_in)) ∙ get_or-map args_in ps i pattern₀ in
        rw (pad-at 64 (map pattern_kind ps) i, pad-at 64 (map head_of ps) i, mapped pattern_kind ps i h, mapped head_of ps i h)
        (pattern-back (pattern_at ps i) (args_at (pad 64 (map (λ p. length (args_in p)) ps)) (pad 256 (fours (map args_in ps))) i) a)

literal-back : (l : Literal) → literal_of (literal_kind l) (left_of l) (right_of l) ≡ l
unfolding literal_of
literal-back (equal p q) = refl
literal-back (unequal p q) = refl

abbrev literal₀ : Literal
literal₀ = unequal 0 0

literals-back : (l : List Literal) → literals_from (pad 16 (map literal_kind l)) (pad 16 (map left_of l)) (pad 16 (map right_of l)) (length l) ≡ l
unfolding literals_from
literals-back l =
    grown-all literal₀ (literals_from (pad 16 (map literal_kind l)) (pad 16 (map left_of l)) (pad 16 (map right_of l)))
    (λ i. literal_of (get_or (pad 16 (map literal_kind l)) i 0) (get_or (pad 16 (map left_of l)) i 0) (get_or (pad 16 (map right_of l)) i 0)) refl (λ m. refl) l each
  where
    mapped : (f : Literal → ℕ) (m : List Literal) (j : ℕ) → j < length m → get_or (map f m) j 0 ≡ f (get_or m j literal₀)
    mapped f [] j k = absurd (omega arith)
    mapped f (x ∷ m) zero k = refl
    mapped f (x ∷ m) (suc j) k = mapped f m j (omega arith)

    each : (i : ℕ) → i < length l → literal_of (get_or (pad 16 (map literal_kind l)) i 0) (get_or (pad 16 (map left_of l)) i 0) (get_or (pad 16 (map right_of l)) i 0) ≡ get_or l i literal₀
    each i h =
        rw (pad-at 16 (map literal_kind l) i, pad-at 16 (map left_of l) i, pad-at 16 (map right_of l) i, mapped literal_kind l i h, mapped left_of l i h, mapped right_of l i h)
        (literal-back (get_or l i literal₀))

pub clause-columns : (k : Clause) → Short (map args_in k.patterns)
    → clause_from (pad 64 (map pattern_kind k.patterns)) (pad 64 (map head_of k.patterns)) (pad 64 (map (λ p. length (args_in p)) k.patterns))
    (pad 256 (fours (map args_in k.patterns)))
    (length k.patterns)
    (pad 16 (map literal_kind k.literals))
    (pad 16 (map left_of k.literals))
    (pad 16 (map right_of k.literals))
    (length k.literals)
    ≡ k
unfolding clause_from
clause-columns k s = ap₂ (λ (p : List Pattern) (l : List Literal). record { patterns = p; literals = l }) (patterns-back k.patterns s) (literals-back k.literals)
