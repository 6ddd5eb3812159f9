-- What the computed normaliser gives: the normal text of a text that is read without a fault and does not contradict itself.
--     gives_one        a candidate that leaves a text, whatever is lent, gives this text and no other
--     normalise-gives  the computed normaliser gives the normal text
--     normalise-one    and no other text
-- Assumes nothing.
use mathlib.Core.List.{List, ◌++◌}
use mathlib.Core.Path.{◌≡◌, refl, ap, sym, ◌∙◌}
use Prim.Native.Nat.{ℕ, ◌+◌, ◌≤◌}
use native.Mathlib.Omega.{arith}
use borrow.Author.Tests.{le-leb}
use lib.ListN.{length, take, drop, length-append}
use lib.Seq.{take_at}
use Rattle.meaning.specs.Context.{Context, differences}
use Rattle.meaning.specs.Text.{narrow, Read, taken, read}
use Rattle.meaning.specs.Writing.{context_text, normal_of}
use Rattle.meaning.specs.Replies.{Written, wrote, normal}
use Rattle.meaning.specs.ByTable.{clear, clash_of}
use Rattle.meaning.specs.Demands.{Normaliser, Gives}
use Rattle.meaning.proofs.Computed.{rep_of, settled, normal_on, leave, normalise}

leave_fits : (text lent : List ℕ) → length text ≤ length lent → leave lent (normal text) ≡ (wrote (length text), text ++ drop (length text) lent)
unfolding leave
leave_fits text lent h = rw (le-leb (length text) (length lent) h, leave)

module _ (n : Normaliser) (s text : List ℕ) (leaves : (lent : List ℕ) → n s lent ≡ leave lent (normal text)) where
  gives-text : Gives n s text
  gives-text lent h = leaves lent ∙ leave_fits text lent h

  -- with space enough for both, both are the first bytes of what it leaves
  pub gives_one : (u : List ℕ) → Gives n s u → u ≡ text
  gives_one u g =
      let lent : List ℕ = u ++ text in
      let long : length lent ≡ length u + length text = length-append u text in
      let e : n s lent ≡ (wrote (length u), u ++ drop (length u) lent) = g lent (omega arith) in
      let f : n s lent ≡ (wrote (length text), text ++ drop (length text) lent) = gives-text lent (omega arith) in
      let k : wrote (length u) ≡ wrote (length text) = ap (λ (x : Written × List ℕ). x.0) (sym e ∙ f) in
      let l : length u ≡ length text = cc in
      let w : u ++ drop (length u) lent ≡ text ++ drop (length text) lent = ap (λ (x : Written × List ℕ). x.1) (sym e ∙ f) in
      sym (take_at u (drop (length u) lent) (length u) refl)
      ∙ ap (take (length u)) w
      ∙ take_at text (drop (length text) lent) (length u) (sym l)

-- ---- the computed normaliser

abbrev pub normal_text_of : Context → List ℕ
normal_text_of c = context_text (normal_of (rep_of c) c)

module _ (s : List ℕ) (x : Read) (reads : read narrow s ≡ taken x) (free : clash_of (rep_of x.ledger.context) (differences x.ledger.context) ≡ clear) where
  normalise-leaves : (lent : List ℕ) → normalise s lent ≡ leave lent (normal (normal_text_of x.ledger.context))
  unfolding normalise normal_on settled
  normalise-leaves lent = rw (reads, normal_on, free, settled)

  pub normalise-gives : Gives normalise s (normal_text_of x.ledger.context)
  normalise-gives = gives-text normalise s (normal_text_of x.ledger.context) normalise-leaves

  pub normalise-one : (u : List ℕ) → Gives normalise s u → u ≡ normal_text_of x.ledger.context
  normalise-one = gives_one normalise s (normal_text_of x.ledger.context) normalise-leaves
