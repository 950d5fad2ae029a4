use Rattle.ix_posting.specs.Forms.{PlaceForm, number_form, pair_form}
use Rattle.ix_posting.specs.Rows.{posting_bytes_of}
use Rattle.ix_rows.specs.PlacedRows.{document_number}
use Rattle.ix_rows.specs.Promises.{HasOneSplit}
use Rattle.ix_rows.specs.laws.Growing.{grows}
use Rattle.ix_rows.specs.laws.Splits.{greedy_is_split, split_is_greedy}
use Rattle.ix_rows.specs.laws.PlacedRows.{place_bytes, row_spelt}
use Rattle.ix_rows.proofs.laws.lists_have_one_split.Goals as goal

one_split : {P : Type 0} (form : PlaceForm P) → HasOneSplit document_number (posting_bytes_of form)
one_split form = record { there = greedy_is_split document_number (posting_bytes_of form); one = split_is_greedy document_number (posting_bytes_of form) (grows document_number (place_bytes form) (posting_bytes_of form) (row_spelt form)) }

pub returns : goal.returns
returns c = record { words = one_split number_form; sections = one_split pair_form }
