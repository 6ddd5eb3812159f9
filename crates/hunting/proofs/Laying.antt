-- Runs laid out for a search: what is laid out says what the runs say, and a search finds it well-formed.
--     few-rows, few-rule         there is room for them
--     lays-done                  what `lay` promises
--     lays-context, lays-rule    what is laid out says what the runs say
--     lays_sound                 and is sound
--     lays_one                   two that are laid out of the same are equal
--     marked, lent .. laid-knows     what is lent says what is laid out
--     hunt-answers, after-answers    what the search answers to what is sound
--     hunt-done, after-done      and to runs
-- Assumes nothing.
use mathlib.Core.List.{List}
use mathlib.Core.Path.{◌≡◌, refl, sym, ap, ap₂, subst, ◌∙◌}
use Prim.Native.Nat.{ℕ}
use native.Mathlib.Omega.{arith}
use borrow.Author.Rules.{rules}
use lib.Seq.{ext_get_or}
use Rattle.meaning.specs.Context.{Context}
use Rattle.runs.specs.Runs.{context_of, clause_of}
use Rattle.layout.specs.Columns.{Few, FewRule, context_laid, rule_laid}
use Rattle.layout.specs.declared.ContextColumns.{ContextColumns}
use Rattle.layout.specs.declared.RuleColumns.{RuleColumns}
use Rattle.layout.proofs.Agreeing.{context-says, rule-says, context-fits, rule_fits}
use Rattle.meaning.specs.Equality.{Promise}
use Rattle.columns.specs.declared.Context.{Context as Lent}
use Rattle.columns.specs.declared.Rule.{Rule}
use Rattle.columns.specs.Lent.{context_in as columns_say, rule_in as rule_says, Fits, FitsRule}
use Rattle.layout.specs.Columns as L
use Rattle.layout.specs.Lending.{LendsContext, LendsRule}
use Rattle.further.specs.Marks.{Marks, MarksIn}
use Rattle.differing.specs.Knowing.{Lends, Knows}
use Rattle.differing.proofs.Knowing.{knows_start}
use Rattle.search.specs.Hunting.{answer_of}
use Rattle.search.specs.Finding.{found_by, later_by, FindsFor, fits, unfits, NextFor, next_fits, next-unfits}
use Rattle.search.specs.declared.Reply.{Reply}
use Rattle.hunting.specs.Laid.{Ready, MarkedIn, Lays, context_in, rule_in, FitIn, FitRule, Sound}
use Rattle.hunting.specs.declared.Laid.{Laid}

-- ---- laid out

module _ (rows said patterns literals table : List ℕ) (r : Ready rows said patterns literals table) where
  pub few-rows : Few rows said
  few-rows = record { rows_few = r.context.rows_few; said-few = r.context.said-few }

  pub few-rule : FewRule patterns literals
  few-rule = record { patterns-few = r.rule.patterns-few; literals-few = r.rule.literals-few }

pub lays-done : (rows said patterns literals table : List ℕ) (c : ContextColumns) (k : RuleColumns) (m : List ℕ) → c ≡ context_laid rows said
    → k ≡ rule_laid patterns literals → MarkedIn c table m → Lays rows said patterns literals table (record { context = c; rule = k; table = table; busy = m })
lays-done rows said patterns literals table c k m e f h = record { context = e; rule = f; closing = refl; busy = h }

-- ---- what it says

module _ (rows said patterns literals table : List ℕ) (r : Ready rows said patterns literals table) (l : Laid) (h : Lays rows said patterns literals table l) where
  pub lays-context : context_in l ≡ context_of rows said
  lays-context = rw h.context (context-says rows said r.context)

  pub lays-rule : rule_in l ≡ clause_of patterns literals
  lays-rule = rw h.rule (rule-says patterns literals r.rule)

  fit : FitIn l.context
  fit = subst FitIn (sym h.context) (record { fit = context-fits rows said r.context })

  pub lays_sound : Sound l
  lays_sound =
      record {
        context = fit;
        rule = subst FitRule (sym h.rule) (record { fit = rule_fits patterns literals r.rule });
        closed = rw (lays-context, h.closing) r.closed;
        busy = h.busy.so.fit fit.fit;
      }

-- ---- one way to lay them out

marks-one : (c : Context) (t m n : List ℕ) → Marks c t m → Marks c t n → m ≡ n
marks-one c t m n p q =
    ext_get_or 0 m n (p.long ∙ sym q.long) (λ i h. p.each i (omega (arith, p.long)) ∙ sym (q.each i (omega (arith, p.long))))

same_parts : {c d : ContextColumns} {k j : RuleColumns} {t u m n : List ℕ} → c ≡ d → k ≡ j → t ≡ u → m ≡ n
    → ◌≡◌ {A = Laid} (record { context = c; rule = k; table = t; busy = m }) (record { context = d; rule = j; table = u; busy = n })
same_parts e f g h = rw (e, f, g, h)

pub lays_one : (rows said patterns literals table : List ℕ) → Ready rows said patterns literals table → (l m : Laid) → Lays rows said patterns literals table l
    → Lays rows said patterns literals table m → l ≡ m
lays_one rows said patterns literals table r l m p q =
    let c : l.context ≡ m.context = p.context ∙ sym q.context in
    let t : l.table ≡ m.table = p.closing ∙ sym q.closing in
    let s : Marks (context_in l) l.table m.busy = rw (c, t) (lays_sound rows said patterns literals table r m q).busy in
    same_parts c (p.rule ∙ sym q.rule) t
    (marks-one (context_in l) l.table l.busy m.busy (lays_sound rows said patterns literals table r l p).busy s)

-- ---- the search

module _ (c : ContextColumns) (n : Lent) (e : LendsContext c n) where
  lent-says : columns_say n ≡ L.context_in c
  lent-says = rw (e.symbols, e.counts, e.args, e.rows, e.kinds, e.lefts, e.rights, e.count)

  lent-fits : FitIn c → Fits n
  lent-fits f = rw (e.symbols, e.counts, e.args, e.rows, e.kinds, e.lefts, e.rights, e.count) f.fit

  pub marked : (t m : List ℕ) → MarksIn n t m → MarkedIn c t m
  marked t m w = record { so = rw (e.symbols, e.counts, e.args, e.rows, e.kinds, e.lefts, e.rights, e.count) at w }

module _ (k : RuleColumns) (r : Rule) (e : LendsRule k r) where
  lent-rule : rule_says r ≡ L.rule_in k
  lent-rule = rw (e.kinds, e.heads, e.counts, e.args, e.rows, e.signs, e.lefts, e.rights, e.count)

  lent-rule-fits : FitRule k → FitsRule r
  lent-rule-fits f = rw (e.kinds, e.heads, e.counts, e.args, e.rows, e.signs, e.lefts, e.rights, e.count) f.fit

module _ (l : Laid) (s : Sound l) (n : Lent) (e : LendsContext l.context n) where
  says : columns_say n ≡ context_in l
  says = lent-says l.context n e

  pub lent : Lends n.terms.symbols.now n.terms.counts.now n.terms.args.now n.terms.rows n.statements.kinds.now n.statements.lefts.now n.statements.rights.now
      n.statements.count l.table l.busy
  lent = record { closes = λ _. subst (λ x. Promise x 255 l.table) (sym says) s.closed; marks = λ _. subst (λ x. Marks x l.table l.busy) (sym says) s.busy }

  pub lent-knows : (known : List ℕ) → Knows (context_in l) known → Knows (columns_say n) known
  lent-knows known w = subst (λ x. Knows x known) (sym says) w

  pub laid-knows : (known : List ℕ) → Knows (columns_say n) known → Knows (context_in l) known
  laid-knows known w = subst (λ x. Knows x known) says w

  module _ (r : Rule) (f : LendsRule l.rule r) where
    pub hunt-answers : (x : Reply) → FindsFor n l.table r x → x ≡ answer_of (found_by (context_in l) l.table (rule_in l))
    hunt-answers x (fits p q) = ap answer_of (ap₂ (λ a b. found_by a l.table b) says (lent-rule l.rule r f))
    hunt-answers x (unfits m) = absurd (m (lent-fits l.context n e s.context) (lent-rule-fits l.rule r f s.rule))

    pub after-answers : (after : List ℕ) (x : Reply) → NextFor n l.table r after x → x ≡ answer_of (later_by (context_in l) l.table (rule_in l) after)
    after-answers after x (next_fits p q) = ap answer_of (ap₂ (λ a b. later_by a l.table b after) says (lent-rule l.rule r f))
    after-answers after x (next-unfits m) = absurd (m (lent-fits l.context n e s.context) (lent-rule-fits l.rule r f s.rule))

module _ (rows said patterns literals table : List ℕ) (r : Ready rows said patterns literals table) (l : Laid) (h : Lays rows said patterns literals table l) where
  pub hunt-done : (y : Reply) → y ≡ answer_of (found_by (context_in l) l.table (rule_in l)) → y ≡ answer_of (found_by (context_of rows said) table (clause_of patterns literals))
  hunt-done y e =
      e ∙ rw (lays-context rows said patterns literals table r l h, lays-rule rows said patterns literals table r l h, h.closing)

  pub after-done : (after : List ℕ) (y : Reply) → y ≡ answer_of (later_by (context_in l) l.table (rule_in l) after)
      → y ≡ answer_of (later_by (context_of rows said) table (clause_of patterns literals) after)
  after-done after y e =
      e ∙ rw (lays-context rows said patterns literals table r l h, lays-rule rows said patterns literals table r l h, h.closing)

pub ruleset mine = (rules, few-rows, few-rule, lays-done, lays_sound, marked, lent, lent-knows, laid-knows, knows_start, hunt-answers, after-answers, hunt-done, after-done)
