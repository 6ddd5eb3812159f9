use Rattle.search_pairs.proofs.Recalling.{knows-not, knows-so, known_so, told-so}
use Rattle.search_pairs.proofs.memo.told.Goals as goal

pub returns-then-not-member : goal.returns-then-not-member
returns-then-not-member c = knows-not _ _ _ _ _ (known_so _ _ _ _ _ _ c.start.ensures c.member.ensures) c.if-not-member.true

pub returns : goal.returns
returns c =
    knows-so _ _ _ _ _ _ (known_so _ _ _ _ _ _ c.start.ensures c.member.ensures) c.if-not-member.false (told-so _ _ _ _ _ _ c.start-2.ensures c.member-2.ensures)
