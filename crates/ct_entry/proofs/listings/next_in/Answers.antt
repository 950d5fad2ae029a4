use Rattle.ct_entry.proofs.listings.next_in.Goals as goal

pub returns-in-None-clause-entry : goal.returns-in-None-clause-entry
returns-in-None-clause-entry g c = λ m holds. rw c.in-None.is (c.next_under.ensures.entry m holds)

pub returns-in-Some-clause-entry : goal.returns-in-Some-clause-entry
returns-in-Some-clause-entry g c = λ m holds. rw (c.in-Some.is, ← c.row_key_bytes.ensures) (c.next_under-in-Some.ensures.entry m holds)
