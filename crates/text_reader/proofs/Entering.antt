-- The entry of a line is what the line adds, or its refusal.
--     entry-kind, entry-size, entry-rank     the look-ups before those of a group
--     row-ready .. variable-ready            what the functions of the groups ask
--     entry_row .. entry-unequal             the entries of the groups
-- Assumes nothing.
use mathlib.Core.Bool.{Bool, true, false, ◌&&◌, cond}
use mathlib.Core.List.{List, [], ◌∷◌}
use mathlib.Core.Path.{◌≡◌, refl, sym, ap, subst, ◌∙◌}
use Prim.Native.Nat.{ℕ, ◌+◌, ◌-◌, ◌<◌, ◌≤◌}
use native.Mathlib.Omega.{arith}
use lib.Dec.{ltb, leb}
use lib.ListN.{length}
use borrow.Author.Rules.{rules}
use borrow.Author.Tests.{le-leb, lt-leb, ltb-true, ltb-false}
use Rattle.std.specs.Prelude.{Option, Some, None, Result, Ok, Err, MatchResult}
use Rattle.std.specs.Result.{IsOkAnd, IsErrAnd}
use Rattle.std.proofs.lemmas.Result.{err_from_is_err_and}
use Rattle.std.specs.Option.{ok_or}
use Rattle.meaning.specs.Context.{same, differ}
use Rattle.meaning.specs.Rules.{variable, apply, equal, unequal}
use Rattle.meaning.specs.Text as M
use Rattle.meaning.specs.Text.{Read, context_row, equation, difference, variable_pattern, symbol_pattern, equal_literal, unequal_literal, row, statement, pattern, literal, field_at, entry_of, known, is_listed, listed_as, kinds, sized, ranked, rank_of, refers, no_row, first_failing, is_nowhere, named_by, names_from, table_of, agrees, rows_of, patterns_of, counts_agree, tests_of, first_fault}
use Rattle.meaning.specs.Columns.{pad}
use Rattle.text_lines.specs.Lines.{Legible, value_at}
use Rattle.text_lines.specs.Entries.{TermLine}
use Rattle.text_lines.specs.declared.entries.Pair.{Pair}
use Rattle.text_lines.specs.declared.entries.Term.{Term}
use Rattle.text_lines.proofs.Fields.{field-at}
use Rattle.runs.specs.Limits.{most_rows, most_equations, most_differences, most_patterns, most_literals}
use Rattle.text_reader.specs.Entries.{pair_in, variable_in, term_in, entry_as}
use Rattle.text_reader.specs.Kinds.{Looked, fields_at, SizeIs, LongBy, meant_kind, kind_rank}
use Rattle.text_reader.specs.Lines.{kind_in, entry_in, fault_in, offset_for, Verdict, Knows, Lined, EntryIs}
use Rattle.text_reader.specs.declared.entries.Entry.{Entry}
use Rattle.text_reader.specs.declared.entries.Entry.TheVariants as E
use Rattle.text_reader.specs.declared.faults.Fault.{Fault}
use Rattle.text_reader.specs.declared.faults.Fault.TheVariants.{UnlistedKind, WrongLength, LowerRank, NoRoom}
use Rattle.text_reader.specs.declared.kinds.Kind.{Kind}
use Rattle.text_reader.specs.declared.kinds.Kind.TheVariants.{ContextRow, Equation, Difference, VariablePattern, SymbolPattern, EqualLiteral, UnequalLiteral}
use Rattle.text_reader.specs.declared.state.State.{State}
use Rattle.text_reader.proofs.Kinded.{two_digits, kind-first}
use Rattle.text_reader.proofs.Pairing.{PairKind, PairVerdict, pair-entry, pair-verdict}
use Rattle.text_reader.proofs.Terming.{TermKind, TermVerdict, term-entry, term-verdict}
use Rattle.text_reader.proofs.Turn.{stopped-first, legible-line, fault-kind, fault-size, fault-rank}

-- ---- what the lines of each kind are
module _ (l : List ℕ) (s : Read) where
  row-kind : s.rank ≤ 1
      → TermKind l s context_row (λ f a. row (record { symbol = f; args = a })) (length (rows_of s)) (ltb (length (rows_of s)) most_rows) (λ f m. counts_agree f m s)
  unfolding entry_of ranked rank_of M.room named_by names_from table_of agrees
  row-kind h =
      record {
        entry = refl;
        ranks = λ f a. le-leb s.rank 1 h;
        rooms = λ f a. refl;
        names = λ f a. refl;
        from = λ f a. refl;
        table = λ f a. refl;
        agrees = λ f a. refl;
      }

  symbol-kind : s.rank ≤ 3
      → TermKind l s symbol_pattern (λ f a. pattern (apply f a)) (length (patterns_of s)) (ltb (length (patterns_of s)) most_patterns) (λ f m. counts_agree f m s)
  unfolding entry_of ranked rank_of M.room named_by names_from table_of agrees
  symbol-kind h =
      record {
        entry = refl;
        ranks = λ f a. le-leb s.rank 3 h;
        rooms = λ f a. refl;
        names = λ f a. refl;
        from = λ f a. refl;
        table = λ f a. refl;
        agrees = λ f a. refl;
      }

  same_kind : s.rank ≤ 2 → PairKind l s equation (λ p q. statement (same p q)) (length (rows_of s)) (ltb s.ledger.equation_lines most_equations)
  unfolding entry_of ranked rank_of M.room named_by names_from table_of agrees
  same_kind h =
      record {
        entry = refl;
        ranks = λ p q. le-leb s.rank 2 h;
        rooms = λ p q. refl;
        names = λ p q. refl;
        from = λ p q. refl;
        table = λ p q. refl;
        agree = λ p q. refl;
      }

  differ-kind : s.rank ≤ 2 → PairKind l s difference (λ p q. statement (differ p q)) (length (rows_of s)) (ltb s.ledger.difference_lines most_differences)
  unfolding entry_of ranked rank_of M.room named_by names_from table_of agrees
  differ-kind h =
      record {
        entry = refl;
        ranks = λ p q. le-leb s.rank 2 h;
        rooms = λ p q. refl;
        names = λ p q. refl;
        from = λ p q. refl;
        table = λ p q. refl;
        agree = λ p q. refl;
      }

  equal-kind : s.rank ≤ 4 → PairKind l s equal_literal (λ p q. literal (equal p q)) (length (patterns_of s)) (ltb (length s.clause.literals) most_literals)
  unfolding entry_of ranked rank_of M.room named_by names_from table_of agrees
  equal-kind h =
      record {
        entry = refl;
        ranks = λ p q. le-leb s.rank 4 h;
        rooms = λ p q. refl;
        names = λ p q. refl;
        from = λ p q. refl;
        table = λ p q. refl;
        agree = λ p q. refl;
      }

  unequal-kind : s.rank ≤ 4 → PairKind l s unequal_literal (λ p q. literal (unequal p q)) (length (patterns_of s)) (ltb (length s.clause.literals) most_literals)
  unfolding entry_of ranked rank_of M.room named_by names_from table_of agrees
  unequal-kind h =
      record {
        entry = refl;
        ranks = λ p q. le-leb s.rank 4 h;
        rooms = λ p q. refl;
        names = λ p q. refl;
        from = λ p q. refl;
        table = λ p q. refl;
        agree = λ p q. refl;
      }

rank_is_lem : (k : Kind) (l : List ℕ) → rank_of (entry_of (meant_kind k) l) ≡ kind_rank k
unfolding entry_of rank_of
rank_is_lem ContextRow l = refl
rank_is_lem Equation l = refl
rank_is_lem Difference l = refl
rank_is_lem VariablePattern l = refl
rank_is_lem SymbolPattern l = refl
rank_is_lem EqualLiteral l = refl
rank_is_lem UnequalLiteral l = refl

-- ---- an answer on a symbol or on two rows, as an entry
module _ (text : List ℕ) (at end : ℕ) (so : Read) where
  abbrev m : ℕ
  m = fault_in text at end so

  row-adds : (f : ℕ) (a : List ℕ) (t : Result Term Fault) → entry_in text at end ≡ row (record { symbol = f; args = a })
      → TermVerdict f a t m (offset_for text at end so) → Verdict text at end so (entry_as E.Row t)
  row-adds f a (Ok t) e v =
      let w = v.1.long in
      record {
        made = record { symbol = f; args = a };
        fault = v.0;
        entry = e;
        piece_is = rw (v.1.args, v.1.head, v.1.count);
        long = omega arith;
      }
  row-adds f a (Err x) e v = v

  symbol-adds : (f : ℕ) (a : List ℕ) (t : Result Term Fault) → entry_in text at end ≡ pattern (apply f a) → TermVerdict f a t m (offset_for text at end so)
      → Verdict text at end so (entry_as E.Symbol t)
  symbol-adds f a (Ok t) e v =
      let w = v.1.long in
      record { made = apply f a; fault = v.0; entry = e; piece_is = rw (v.1.args, v.1.head, v.1.count); long = omega arith }
  symbol-adds f a (Err x) e v = v

  module _ (p q : ℕ) (t : Result Pair Fault) (v : PairVerdict p q t m (offset_for text at end so)) where
    same-adds : entry_in text at end ≡ statement (same p q) → Verdict text at end so (entry_as E.Equation t)
    same-adds e = elim t as (λ t. PairVerdict p q t m (offset_for text at end so) → Verdict text at end so (entry_as E.Equation t))
        [ Ok x ↦ λ v. record { made = same p q; fault = v.0; entry = e; piece_is = rw (v.1, v.2); long = refl } | Err f ↦ λ v. v ] v

    differ-adds : entry_in text at end ≡ statement (differ p q) → Verdict text at end so (entry_as E.Difference t)
    differ-adds e = elim t as (λ t. PairVerdict p q t m (offset_for text at end so) → Verdict text at end so (entry_as E.Difference t))
        [ Ok x ↦ λ v. record { made = differ p q; fault = v.0; entry = e; piece_is = rw (v.1, v.2); long = refl } | Err f ↦ λ v. v ] v

    equal-adds : entry_in text at end ≡ literal (equal p q) → Verdict text at end so (entry_as E.Equal t)
    equal-adds e = elim t as (λ t. PairVerdict p q t m (offset_for text at end so) → Verdict text at end so (entry_as E.Equal t))
        [ Ok x ↦ λ v. record { made = equal p q; fault = v.0; entry = e; piece_is = rw (v.1, v.2); long = refl } | Err f ↦ λ v. v ] v

    unequal-adds : entry_in text at end ≡ literal (unequal p q) → Verdict text at end so (entry_as E.Unequal t)
    unequal-adds e = elim t as (λ t. PairVerdict p q t m (offset_for text at end so) → Verdict text at end so (entry_as E.Unequal t))
        [ Ok x ↦ λ v. record { made = unequal p q; fault = v.0; entry = e; piece_is = rw (v.1, v.2); long = refl } | Err f ↦ λ v. v ] v

-- ---- a variable
module _ (text : List ℕ) (at end : ℕ) (g : Legible text at end) (so : Read) (knows : known (fields_at text at end) ≡ true)
    (kind : kind_in text at end ≡ variable_pattern) (size : sized variable_pattern (fields_at text at end) ≡ true) (d : end - at ≡ 4) (top : so.rank ≤ 3) where
  abbrev room : Bool
  room = ltb (length (patterns_of so)) most_patterns

  abbrev v : ℕ
  v = field_at (fields_at text at end) 1

  variable-fault : fault_in text at end so ≡ first_fault 1 (true ∷ true ∷ true ∷ true ∷ (room && leb v 3) ∷ true ∷ true ∷ [])
  unfolding tests_of entry_of ranked rank_of M.room refers no_row named_by first_failing is_nowhere agrees
  variable-fault = rw (kind, legible-line text at end g, knows, size, le-leb so.rank 3 top)

  variable-adds : Verdict text at end so (entry_as E.Variable (variable_in text at room))
  unfolding variable_in first_fault pad entry_of
  variable-adds = rw (← field-at text at end g 1 (omega arith)) (go room refl (ltb v 4) refl)
    where
      go : (b : Bool) → room ≡ b → (c : Bool) → ltb v 4 ≡ c
          → Verdict text at end so (entry_as E.Variable (cond b (cond c (Ok v) (Err NoRoom)) (Err NoRoom)))
      go false e c f = stopped-first text at end so _ 5 (rw (variable-fault, e)) refl refl (omega arith)
      go true e true f =
          record {
            made = variable v;
            fault = rw (variable-fault, e, le-leb v 3 (omega (arith, ltb-true v 4 f)));
            entry = rw kind;
            piece_is = refl;
            long = refl;
          }
      go true e false f =
          stopped-first text at end so _ 5 (rw (variable-fault, e, lt-leb v 3 (omega (arith, ltb-false v 4 f)))) refl refl (omega arith)

-- ---- a look-up that did not answer
missed : {A : Type 0} (o : Option A) (e f : Fault) → Err f ≡ ok_or o e → f ≡ e
missed None e f h = cc
missed (Some x) e f h = cc

-- ---- the look-ups, one after the other
module _ (text : List ℕ) (end : ℕ) (s : State) (fs ks : List ℕ) (g : Legible text s.at end) (v : ℕ) (v₀ : v ≡ value_at text s.at) (u : Option Kind)
    (u₀ : Looked v u) where
  first-is : field_at (fields_at text s.at end) 0 ≡ v
  first-is = kind-first text s.at end g ∙ sym v₀

  pub entry-kind : u ≡ None → (f : Fault) → Err f ≡ ok_or u UnlistedKind → (x : Result Entry Fault) → IsErrAnd x (λ e. e ≡ f) → EntryIs text end s fs ks x
  unfolding known
  entry-kind e f i x y =
      let p = err_from_is_err_and x y in
      let w : is_listed v kinds ≡ false = subst (λ (y : Option Kind). Looked v y) e u₀ in
      rw (p.1, p.2, missed u UnlistedKind f i) record { verdict = λ so k w'. fault-kind text s.at end g so (rw first-is w) }

  module _ (kind : Kind) (e : u ≡ Some kind) (z : Option ℕ) (z₀ : SizeIs text s.at end (meant_kind kind) z) where
    looked : (is_listed v kinds ≡ true) × (listed_as v kinds ≡ meant_kind kind)
    looked = subst (λ (y : Option Kind). Looked v y) e u₀

    knows : known (fields_at text s.at end) ≡ true
    unfolding known
    knows = rw first-is looked.0

    kinded : kind_in text s.at end ≡ meant_kind kind
    kinded = rw first-is looked.1

    pub entry-size : z ≡ None → (f : Fault) → Err f ≡ ok_or z WrongLength → (x : Result Entry Fault) → IsErrAnd x (λ e. e ≡ f) → EntryIs text end s fs ks x
    entry-size e f i x y =
        let p = err_from_is_err_and x y in
        let w : sized (meant_kind kind) (fields_at text s.at end) ≡ false = subst (λ (y : Option ℕ). SizeIs text s.at end (meant_kind kind) y) e z₀ in
        rw (p.1, p.2, missed z WrongLength f i) record { verdict = λ so k w'. fault-size text s.at end g so knows (rw kinded w) }

    module _ (count : ℕ) (f : z ≡ Some count) (r : ℕ) (r₀ : r ≡ kind_rank kind) where
      right : (sized (meant_kind kind) (fields_at text s.at end) ≡ true) × LongBy (meant_kind kind) (end - s.at) count
      right = subst (λ (y : Option ℕ). SizeIs text s.at end (meant_kind kind) y) f z₀

      pub entry-rank : r < s.rank → EntryIs text end s fs ks (Err LowerRank)
      unfolding ranked
      entry-rank low =
          record {
            verdict = λ so k w. fault-rank text s.at end g so knows (rw kinded right.0)
                (lt-leb so.rank (rank_of (entry_in text s.at end))
                (rw (kinded, rank_is_lem kind (fields_at text s.at end), ← r₀, ← k.rank) low));
          }

      pub lined : s.rank ≤ r → Lined text end kind count s
      lined h = record { legible = g; listed = knows; kinded = kinded; size = right.0; long = right.1; rank = rw r₀ at h }

pub entry-map : {A : Type 0} (make : A → Entry) (x y : Result A Fault) (r : Result Entry Fault) → x ≡ y
    → MatchResult x (λ a. IsOkAnd r (λ e. e ≡ make a)) (λ f. r ≡ Err f) → r ≡ entry_as make y
entry-map make (Ok a) y (Ok e) i h = rw (← i) (ap Ok h)
entry-map make (Ok a) y (Err f) i h = absurd h
entry-map make (Err f) y r i h = rw (← i) h

module _ {text : List ℕ} {end : ℕ} {kind : Kind} {count : ℕ} {s : State} (l : Lined text end kind count s) where
  long_as : (k : Kind) → kind ≡ k → LongBy (meant_kind k) (end - s.at) count
  long_as k h = subst (λ (y : Kind). LongBy (meant_kind y) (end - s.at) count) h l.long

  pub row-ready : kind ≡ ContextRow → TermLine text s.at end count
  row-ready h = record { legible = l.legible; size = long_as ContextRow h }

  pub symbol-ready : kind ≡ SymbolPattern → TermLine text s.at end count
  symbol-ready h = record { legible = l.legible; size = long_as SymbolPattern h }

  inside : end < length text
  inside = let g = l.legible in omega (arith, g.inside)

  pub equation-ready : kind ≡ Equation → s.at + 5 < length text
  equation-ready h = omega (arith, long_as Equation h, inside)

  pub difference-ready : kind ≡ Difference → s.at + 5 < length text
  difference-ready h = omega (arith, long_as Difference h, inside)

  pub equal-ready : kind ≡ EqualLiteral → s.at + 5 < length text
  equal-ready h = omega (arith, long_as EqualLiteral h, inside)

  pub unequal-ready : kind ≡ UnequalLiteral → s.at + 5 < length text
  unequal-ready h = omega (arith, long_as UnequalLiteral h, inside)

  pub variable-ready : kind ≡ VariablePattern → s.at + 3 < length text
  variable-ready h = omega (arith, long_as VariablePattern h, inside)

  module _ (fs ks : List ℕ) (r : Result Entry Fault) where
    g : Legible text s.at end
    g = l.legible

    listed : known (fields_at text s.at end) ≡ true
    listed = l.listed

    kind-as : (k : Kind) → kind ≡ k → kind_in text s.at end ≡ meant_kind k
    kind-as k h = l.kinded ∙ ap meant_kind h

    size-as : (k : Kind) → kind ≡ k → sized (meant_kind k) (fields_at text s.at end) ≡ true
    size-as k h = subst (λ (y : Kind). sized (meant_kind y) (fields_at text s.at end) ≡ true) h l.size

    low-as : (k : Kind) → kind ≡ k → (so : Read) → Knows s so → so.rank ≤ kind_rank k
    low-as k h so n = let i : kind_rank kind ≡ kind_rank k = ap kind_rank h in omega (arith, l.rank, n.rank)

    pub entry_row : kind ≡ ContextRow → r ≡ entry_as E.Row (term_in text s.at count (ltb s.rows most_rows) s.rows fs ks s.terms) → EntryIs text end s fs ks r
    entry_row h i =
        rw i record {
          verdict = λ so n w.
              let is = row-kind (fields_at text s.at end) so (low-as ContextRow h so n) in
              rw n.rows
              (row-adds text s.at end so _ _ (term_in text s.at count (ltb (length (rows_of so)) most_rows) (length (rows_of so)) fs ks s.terms)
              (term-entry text s.at end g so context_row _ _ _ _ listed (kind-as ContextRow h) (size-as ContextRow h) count (long_as ContextRow h) is)
              (term-verdict text s.at end g so context_row _ _ _ _ listed (kind-as ContextRow h) (size-as ContextRow h) count (long_as ContextRow h) is fs ks s.terms w.agree));
        }

    pub entry-symbol : kind ≡ SymbolPattern → r ≡ entry_as E.Symbol (term_in text s.at count (ltb s.patterns most_patterns) s.patterns fs ks s.terms) → EntryIs text end s fs ks r
    entry-symbol h i =
        rw i record {
          verdict = λ so n w.
              let is = symbol-kind (fields_at text s.at end) so (low-as SymbolPattern h so n) in
              rw n.patterns
              (symbol-adds text s.at end so _ _ (term_in text s.at count (ltb (length (patterns_of so)) most_patterns) (length (patterns_of so)) fs ks s.terms)
              (term-entry text s.at end g so symbol_pattern _ _ _ _ listed (kind-as SymbolPattern h) (size-as SymbolPattern h) count (long_as SymbolPattern h) is)
              (term-verdict text s.at end g so symbol_pattern _ _ _ _ listed (kind-as SymbolPattern h) (size-as SymbolPattern h) count (long_as SymbolPattern h) is fs ks s.terms w.agree));
        }

    pub entry-variable : kind ≡ VariablePattern → r ≡ entry_as E.Variable (variable_in text s.at (ltb s.patterns most_patterns)) → EntryIs text end s fs ks r
    entry-variable h i =
        rw i record {
          verdict = λ so n w. rw n.patterns
              (variable-adds text s.at end g so listed (kind-as VariablePattern h) (size-as VariablePattern h) (long_as VariablePattern h) (low-as VariablePattern h so n));
        }

    pub entry-equation : kind ≡ Equation → r ≡ entry_as E.Equation (pair_in text s.at (ltb s.equations most_equations) s.rows) → EntryIs text end s fs ks r
    entry-equation h i =
        rw i record {
          verdict = λ so n w.
              let is = same_kind (fields_at text s.at end) so (low-as Equation h so n) in
              rw (n.rows, n.equations)
              (same-adds text s.at end so _ _ (pair_in text s.at (ltb so.ledger.equation_lines most_equations) (length (rows_of so)))
              (pair-verdict text s.at end g so equation _ _ _ listed (kind-as Equation h) (size-as Equation h) (long_as Equation h) is)
              (pair-entry text s.at end g so equation _ _ _ listed (kind-as Equation h) (size-as Equation h) (long_as Equation h) is));
        }

    pub entry-difference : kind ≡ Difference → r ≡ entry_as E.Difference (pair_in text s.at (ltb s.differences most_differences) s.rows) → EntryIs text end s fs ks r
    entry-difference h i =
        rw i record {
          verdict = λ so n w.
              let is = differ-kind (fields_at text s.at end) so (low-as Difference h so n) in
              rw (n.rows, n.differences)
              (differ-adds text s.at end so _ _ (pair_in text s.at (ltb so.ledger.difference_lines most_differences) (length (rows_of so)))
              (pair-verdict text s.at end g so difference _ _ _ listed (kind-as Difference h) (size-as Difference h) (long_as Difference h) is)
              (pair-entry text s.at end g so difference _ _ _ listed (kind-as Difference h) (size-as Difference h) (long_as Difference h) is));
        }

    pub entry-equal : kind ≡ EqualLiteral → r ≡ entry_as E.Equal (pair_in text s.at (ltb s.literals most_literals) s.patterns) → EntryIs text end s fs ks r
    entry-equal h i =
        rw i record {
          verdict = λ so n w.
              let is = equal-kind (fields_at text s.at end) so (low-as EqualLiteral h so n) in
              rw (n.patterns, n.literals)
              (equal-adds text s.at end so _ _ (pair_in text s.at (ltb (length so.clause.literals) most_literals) (length (patterns_of so)))
              (pair-verdict text s.at end g so equal_literal _ _ _ listed (kind-as EqualLiteral h) (size-as EqualLiteral h) (long_as EqualLiteral h) is)
              (pair-entry text s.at end g so equal_literal _ _ _ listed (kind-as EqualLiteral h) (size-as EqualLiteral h) (long_as EqualLiteral h) is));
        }

    pub entry-unequal : kind ≡ UnequalLiteral → r ≡ entry_as E.Unequal (pair_in text s.at (ltb s.literals most_literals) s.patterns) → EntryIs text end s fs ks r
    entry-unequal h i =
        rw i record {
          verdict = λ so n w.
              let is = unequal-kind (fields_at text s.at end) so (low-as UnequalLiteral h so n) in
              rw (n.patterns, n.literals)
              (unequal-adds text s.at end so _ _ (pair_in text s.at (ltb (length so.clause.literals) most_literals) (length (patterns_of so)))
              (pair-verdict text s.at end g so unequal_literal _ _ _ listed (kind-as UnequalLiteral h) (size-as UnequalLiteral h) (long_as UnequalLiteral h) is)
              (pair-entry text s.at end g so unequal_literal _ _ _ listed (kind-as UnequalLiteral h) (size-as UnequalLiteral h) (long_as UnequalLiteral h) is));
        }

pub field-ready : (text : List ℕ) (at end : ℕ) → Legible text at end → at + 1 < length text
field-ready text at end g = omega (arith, g.inside, two_digits text at end g)

pub ruleset mine = (
  rules,
  field-ready,
  entry-kind,
  entry-size,
  entry-rank,
  lined,
)

pub ruleset ways = (
  rules,
  entry-map,
  row-ready,
  symbol-ready,
  equation-ready,
  difference-ready,
  equal-ready,
  unequal-ready,
  variable-ready,
  entry_row,
  entry-symbol,
  entry-variable,
  entry-equation,
  entry-difference,
  entry-equal,
  entry-unequal,
)
