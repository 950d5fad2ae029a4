-- What holds of the bytes of every number of fixed width.
use Rattle.std.proofs.Common.{sym, ap, ◌∙◌}
use Rattle.std.specs.Int.{from_be_bytes, w16, w32}
use Rattle.std.proofs.lemmas.Nat.{from_be_bytes-to_be_bytes_2, from_be_bytes-to_be_bytes_4}
use Rattle.ct_bytes.specs.Promises.{TwoBytesAreOneNumber, FourBytesAreOneNumber}

pub two_bytes_one : TwoBytesAreOneNumber
two_bytes_one m n f g e = sym (from_be_bytes-to_be_bytes_2 m f) ∙ ap (from_be_bytes w16) e ∙ from_be_bytes-to_be_bytes_2 n g

pub four_bytes_one : FourBytesAreOneNumber
four_bytes_one m n f g e = sym (from_be_bytes-to_be_bytes_4 m f) ∙ ap (from_be_bytes w32) e ∙ from_be_bytes-to_be_bytes_4 n g
