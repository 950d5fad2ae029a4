-- What documents a scan finds.
use Rattle.std.proofs.Common.{◌≡◌, ℕ, List, ◌∷◌, ◌++◌, length}
use Rattle.std.specs.Int.{to_be_bytes, w32}
use Rattle.std.specs.Ordering.{nat_cmp}
use Rattle.std.specs.Cmp.Lexicographic.{slice_cmp}
use Rattle.std.proofs.lemmas.Cmp.{nat_cmp_total}
use Rattle.ct_bytes.specs.laws.ByteOrder.{four_bytes_in_order}
use Rattle.ct_entry.specs.declared.kinds.Kind.TheVariants as kind
use Rattle.ct_entry.specs.Keys.{IsPart, document_part, IsDocument}
use Rattle.ct_entry.specs.laws.Parts.{counted_apart}
use Rattle.ct_base.specs.laws.Lists.{cons_parts}
use Rattle.ct_entry.specs.laws.Listings.{Spells}

-- the bytes of documents are in the order of the numbers
pub documents_in_order : (d e : ℕ) → IsDocument d → IsDocument e → slice_cmp nat_cmp (document_part d) (document_part e) ≡ nat_cmp d e
documents_in_order d e f g = four_bytes_in_order d e f g

pub document_spells : Spells nat_cmp document_part IsDocument
document_spells = record { total = nat_cmp_total; order = documents_in_order; some = λ d e. cc }

-- after a stream and a token stands a document
pub posting_prefix : (stream : ℕ) (token q : List ℕ) → IsPart kind.Postings ((stream ∷ length token ∷ token) ++ q) → (d : ℕ) × IsDocument d × (q ≡ document_part d)
posting_prefix stream token q is =
    let tails = cons_parts stream is.0 (length token ∷ (token ++ q)) (length is.2.0 ∷ (is.2.0 ++ to_be_bytes w32 is.1)) is.2.4 in
    let parts = counted_apart token is.2.0 q (to_be_bytes w32 is.1) tails.1 in
    (is.1, is.2.3, parts.1)

-- and after a section
pub span_prefix : (section q : List ℕ) → IsPart kind.Spans ((length section ∷ section) ++ q) → (d : ℕ) × IsDocument d × (q ≡ document_part d)
span_prefix section q is = (is.0, is.1.2, (counted_apart section is.1.0 q (to_be_bytes w32 is.0) is.1.3).1)
