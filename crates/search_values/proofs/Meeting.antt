-- One pattern row compared with a symbol over values, a walk along the rows already read, and the two look-ups together.
--     Valuing                        the values of the first arguments are the wanted ones
--     over-variable, over-symbol     one pattern row
--     Meeting                        none of the rows before a place of the order is the one
--     look-held, look-met            a symbol over values
--     mine                           what these functions leave to show
-- Assumes nothing.
use mathlib.Core.Bool.{Bool, true, false, ◌&&◌}
use mathlib.Core.List.{List, [], ◌∷◌}
use mathlib.Core.Path.{◌≡◌, refl, sym, ap, ◌∙◌}
use Prim.Native.Nat.{ℕ, suc, ◌+◌, ◌*◌, ◌≤◌, ◌<◌}
use native.Mathlib.Omega.{arith}
use native.Mathlib.Numerals.{add-one}
use borrow.Author.Rules.{rules}
use borrow.Author.Tests.{eq-eqb, ne_eqb, eqb-true, eqb-false}
use lib.Dec.{eqb}
use lib.ListN.{length, get_or, take, drop, length-take, drop_of_length-le}
use lib.Seq.{drop-cons, get_or-take}
use Rattle.std.specs.Prelude.{Option, None, Some}
use Rattle.std.specs.Option.{unwrap_or}
use Rattle.meaning.specs.Context.{Row}
use Rattle.meaning.specs.Rules.{Pattern}
use Rattle.meaning.specs.ByTable.{same_list}
use Rattle.meaning.specs.Values.{pattern₀, pattern_at, number_at, args_of, is_over, met}
use Rattle.runs.specs.Limits.{most_variables, pattern_size, arg_places}
use Rattle.runs.specs.Runs.{pattern_count, pattern_kind_in, head_in, pattern_count_in, pattern_arg_in, pattern_args_in, pattern_in, patterns_of}
use Rattle.runs.proofs.Saying.{patterns-at, pattern-variable, pattern-symbol}
use Rattle.search_plan.specs.Steps.{RowFit as PatternFit, ArgsFit}
use Rattle.search_values.specs.Lookup.{LedgerFit, Looked}
use Rattle.search_values.specs.Reading.{ReadFit, VariableFit, Asked, Met, look_of}
use Rattle.search_values.proofs.Comparing.{Comparing, over-lengths, over-start, over-next, over-differs, over_done}

-- ---- the arguments of a pattern row

pub record Valuing (patterns values : List ℕ) (q : ℕ) (wanted : List ℕ) (k : ℕ) : Type 0 where
  pub same : pattern_count_in patterns q ≡ length wanted
  pub so : Comparing wanted (args_of values (pattern_args_in patterns q)) k

module _ (patterns values : List ℕ) (q : ℕ) (wanted : List ℕ) (f : ArgsFit patterns (length values) q) where
  room : q * pattern_size + 3 + arg_places ≤ length patterns
  room = omega (arith, f.inside)

  pub valuing-lengths : (n : ℕ) → n ≡ pattern_count_in patterns q → (n ≡ length wanted → ⊥) → false ≡ same_list wanted (args_of values (pattern_args_in patterns q))
  valuing-lengths n e d = sym (over-lengths (number_at values) patterns (q * pattern_size + 3) (pattern_count_in patterns q) wanted room f.placed.few (λ z. d (e ∙ z)))

  pub valuing-start : (n : ℕ) → n ≡ pattern_count_in patterns q → n ≡ length wanted → Valuing patterns values q wanted 0
  valuing-start n e z =
      let s : pattern_count_in patterns q ≡ length wanted = sym e ∙ z in
      record { same = s; so = over-start (number_at values) patterns (q * pattern_size + 3) (pattern_count_in patterns q) wanted room f.placed.few s }

  module _ (k : ℕ) (m : Valuing patterns values q wanted k) where
    pub valuing-inside : k < length wanted → k < pattern_count_in patterns q
    valuing-inside h = omega (arith, m.same)

    module _ (v : ℕ) (h : k < length wanted) (z : v ≡ number_at values (pattern_arg_in patterns q k)) where
      pub valuing-next : v ≡ get_or wanted k 0 → Valuing patterns values q wanted (k + 1)
      valuing-next e =
          record {
            same = m.same;
            so =
                over-next (number_at values) patterns (q * pattern_size + 3) (pattern_count_in patterns q) wanted room f.placed.few m.same k m.so v h z e;
          }

      pub valuing-differs : (v ≡ get_or wanted k 0 → ⊥) → false ≡ same_list wanted (args_of values (pattern_args_in patterns q))
      valuing-differs n =
          sym
          (over-differs (number_at values) patterns (q * pattern_size + 3) (pattern_count_in patterns q) wanted room f.placed.few m.same k m.so v h z n)

    pub valuing-done : length wanted ≤ k → true ≡ same_list wanted (args_of values (pattern_args_in patterns q))
    valuing-done h =
        sym (over_done (number_at values) patterns (q * pattern_size + 3) (pattern_count_in patterns q) wanted room f.placed.few m.same k m.so h)

module _ (patterns : List ℕ) (places q k : ℕ) (f : ArgsFit patterns places q) (h : k < pattern_count_in patterns q) where
  pub arg-place : k < arg_places
  arg-place = omega (arith, f.placed.few)

  pub arg-known : (a : ℕ) → a ≡ pattern_arg_in patterns q k → a < places
  arg-known a p = omega (arith, f.placed.earlier.each k h, f.known)

pub arg-value : (patterns values : List ℕ) (q k a : ℕ) → a ≡ pattern_arg_in patterns q k → get_or values a 0 ≡ number_at values (pattern_arg_in patterns q k)
arg-value patterns values q k a p = ap (number_at values) p

-- ---- one pattern row

module _ (patterns : List ℕ) (places q : ℕ) (x : Bool) (f : PatternFit patterns places q) (e : x ≡ eqb (pattern_kind_in patterns q) 4) where
  pub over-args : x ≡ false → ArgsFit patterns places q
  over-args n = record { inside = f.inside; known = f.known; placed = f.pattern.symbol (eqb-false (pattern_kind_in patterns q) 4 (sym e ∙ n)) }

module _ (patterns values : List ℕ) (q : ℕ) (x : Bool) (s : ℕ) (ns : List ℕ) (e : x ≡ eqb (pattern_kind_in patterns q) 4) where
  pub over-variable : x ≡ true → false ≡ is_over s ns values (pattern_in patterns q)
  unfolding is_over
  over-variable is = rw (pattern-variable patterns q (eqb-true (pattern_kind_in patterns q) 4 (sym e ∙ is)))

  pub over-symbol : (r : Bool) → x ≡ false → r ≡ (eqb s (head_in patterns q) && same_list ns (args_of values (pattern_args_in patterns q)))
      → r ≡ is_over s ns values (pattern_in patterns q)
  unfolding is_over
  over-symbol r n y = rw (pattern-symbol patterns q (eqb-false (pattern_kind_in patterns q) 4 (sym e ∙ n))) y

pub symbol-other : (s g h : ℕ) (b : Bool) → h ≡ g → (h ≡ s → ⊥) → false ≡ (eqb s g && b)
symbol-other s g h b e n = rw (ne_eqb s g (λ z. n (e ∙ sym z)))

pub symbol-same : (s g h : ℕ) (b r : Bool) → h ≡ g → h ≡ s → r ≡ b → r ≡ (eqb s g && b)
symbol-same s g h b r e z q = rw (eq-eqb s g (sym z ∙ e)) q

module _ (patterns values : List ℕ) (q : ℕ) (x : Bool) (s h : ℕ) (ns : List ℕ) (e : x ≡ eqb (pattern_kind_in patterns q) 4) (n : x ≡ false) (eh : h ≡ head_in patterns q) where
  pub over-other : (h ≡ s → ⊥) → false ≡ is_over s ns values (pattern_in patterns q)
  over-other d = over-symbol patterns values q x s ns e false n (symbol-other s (head_in patterns q) h (same_list ns (args_of values (pattern_args_in patterns q))) eh d)

  pub over-same : (r : Bool) → h ≡ s → r ≡ same_list ns (args_of values (pattern_args_in patterns q)) → r ≡ is_over s ns values (pattern_in patterns q)
  over-same r z y = over-symbol patterns values q x s ns e r n (symbol-same s (head_in patterns q) h (same_list ns (args_of values (pattern_args_in patterns q))) r eh z y)

-- ---- the rows already read

pub record Meeting (ps : List Pattern) (f : ℕ) (ns values order : List ℕ) (read j : ℕ) : Type 0 where
  pub same : (d : ℕ) → met ps f ns values d (take read order) ≡ met ps f ns values d (drop j (take read order))

pub meeting-start : {ps : List Pattern} {f : ℕ} {ns values order : List ℕ} {read : ℕ} → Meeting ps f ns values order read 0
meeting-start = record { same = λ d. refl }

module _ (patterns order : List ℕ) (read places : ℕ) (r : ReadFit patterns order read places) (j : ℕ) (h : j < read) where
  pub meeting-inside : j < length order
  meeting-inside = omega (arith, r.listed.long)

  module _ (q : ℕ) (e : q ≡ get_or order j 0) where
    row_inside : q < pattern_count patterns
    row_inside = omega (arith, r.listed.rows j h)

    pub meeting-known : q < places
    meeting-known = omega (arith, row_inside, r.valued)

    pub meeting-row : PatternFit patterns places q
    meeting-row = record { inside = row_inside; known = omega (arith, row_inside, r.valued); pattern = r.rule.placed.each q row_inside }

    module _ (f : ℕ) (ns values : List ℕ) (m : Meeting (patterns_of patterns) f ns values order read j) (b : Bool) (o : b ≡ is_over f ns values (pattern_in patterns q)) where
      met-step : (d : ℕ) → met (patterns_of patterns) f ns values d (take read order) ≡ met (patterns_of patterns) f ns values d (q ∷ drop (suc j) (take read order))
      met-step d =
          m.same d ∙ rw (drop-cons (take read order) j 0 (omega (arith, length-take read order, r.listed.long)), get_or-take read order j 0 h, ← e)

      row_is : pattern_at (patterns_of patterns) q ≡ pattern_in patterns q
      row_is = patterns-at patterns q pattern₀ row_inside

      pub meeting-next : b ≡ false → Meeting (patterns_of patterns) f ns values order read (j + 1)
      unfolding met
      meeting-next z = record { same = λ d. rw (add-one j) (met-step d ∙ rw (row_is, met, ← o, z)) }

      pub meeting-found : (v : ℕ) → b ≡ true → v ≡ get_or values q 0 → Met (patterns_of patterns) f ns values (take read order) (Some v)
      unfolding met
      meeting-found v z y = record { so = λ d. y ∙ sym (met-step d ∙ rw (row_is, met, ← o, z)) }

pub meeting-ends : (ps : List Pattern) (f : ℕ) (ns values order : List ℕ) (read j : ℕ) → Meeting ps f ns values order read j → read ≤ j
    → Met ps f ns values (take read order) None
unfolding met
meeting-ends ps f ns values order read j m h =
    let l : length (take read order) ≤ j = omega (arith, length-take read order) in
    let e : drop j (take read order) ≡ [] = drop_of_length-le (take read order) l in
    record { so = λ d. sym (m.same d ∙ rw e) }

-- ---- a variable, and a symbol over values

pub given-low : (patterns : List ℕ) (row h v : ℕ) → VariableFit patterns row → h ≡ head_in patterns row → v ≡ h → v < most_variables
given-low patterns row h v f e q = omega (arith, f.low)

pub given_is : (patterns chosen : List ℕ) (row h v x : ℕ) → h ≡ head_in patterns row → v ≡ h → x ≡ get_or chosen v 0 → x ≡ get_or chosen (head_in patterns row) 0
given_is patterns chosen row h v x e q z = z ∙ ap (λ (i : ℕ). get_or chosen i 0) (q ∙ e)

pub look-ledger : {rows table keys patterns order : List ℕ} {read places : ℕ} → Asked rows table keys patterns order read places → LedgerFit rows table keys
look-ledger a = a.ledger

pub look-reading : {rows table keys patterns order : List ℕ} {read places : ℕ} → Asked rows table keys patterns order read places → ReadFit patterns order read places
look-reading a = a.reading

module _ (rows : List Row) (rep : ℕ → ℕ) (ps : List Pattern) (g f : ℕ) (args values done : List ℕ) (row : ℕ) (s : g ≡ f) where
  pub look-held : (v : ℕ) → Looked rep g args rows (Some v) → v ≡ look_of rows rep ps f args values done row
  look-held v l = rw (← s) (l.so (met ps g args values (65536 + row) done))

  pub look-met : (r own : ℕ) (o : Option ℕ) → Looked rep g args rows None → own ≡ 65536 + row → Met ps g args values done o → r ≡ unwrap_or o own
      → r ≡ look_of rows rep ps f args values done row
  look-met r own o l e m q = q ∙ m.so own ∙ rw (e, ← s) (l.so (met ps g args values (65536 + row) done))

pub ruleset mine = (
  rules,
  valuing-lengths,
  valuing-start,
  valuing-inside,
  valuing-next,
  valuing-differs,
  valuing-done,
  arg-place,
  arg-known,
  arg-value,
  over-args,
  over-variable,
  over-symbol,
  over-other,
  over-same,
  meeting-start,
  meeting-inside,
  meeting-known,
  meeting-row,
  meeting-next,
  meeting-found,
  meeting-ends,
  given-low,
  given_is,
  look-ledger,
  look-reading,
  look-held,
  look-met,
)
