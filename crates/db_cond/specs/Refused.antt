-- The refusals that code makes, as refusals of the definitions.
use Rattle.std.specs.Prelude.{◌≡◌, negsuc, codes, refl}
use Rattle.std.specs.Fmt.{digits}
use Rattle.db_cond.specs.declared.faults.Fault.{Fault}
use Rattle.db_cond.specs.declared.faults.Fault.TheVariants as fault
use Rattle.db_cond.specs.Faults.{Refusal, UnknownName, ExistsAlready, WrongValues, KeyExists, ValueTooLong, QuerySyntax, NotInProfile, QueryNumber, NotOneWord, UnknownSection, FieldInside, UnknownThesaurus, TooManyTerms, QueryTooLarge, OutOfRange, NoIndexOfKind, BadValue, LimitReached, InNoSubIndex, refusal_line}

abbrev pub refusal_of : Fault → Refusal
refusal_of (fault.UnknownName name) = UnknownName name.now
refusal_of (fault.ExistsAlready name) = ExistsAlready name.now
refusal_of fault.WrongValues = WrongValues
refusal_of (fault.KeyExists key) = KeyExists key
refusal_of fault.ValueTooLong = ValueTooLong
refusal_of (fault.QuerySyntax place) = QuerySyntax place
refusal_of (fault.NotInProfile place) = NotInProfile place
refusal_of (fault.QueryNumber place) = QueryNumber place
refusal_of (fault.NotOneWord place) = NotOneWord place
refusal_of (fault.UnknownSection name) = UnknownSection name.now
refusal_of (fault.FieldInside name) = FieldInside name.now
refusal_of (fault.UnknownThesaurus name) = UnknownThesaurus name.now
refusal_of fault.TooManyTerms = TooManyTerms
refusal_of fault.QueryTooLarge = QueryTooLarge
refusal_of fault.OutOfRange = OutOfRange
refusal_of fault.NoIndexOfKind = NoIndexOfKind
refusal_of fault.BadValue = BadValue
refusal_of fault.LimitReached = LimitReached
refusal_of (fault.InNoSubIndex name) = InNoSubIndex name.now

-- computed example
key_of_a_row : refusal_line (refusal_of (fault.KeyExists (negsuc 6))) ≡ codes "E14: key -7 exists\n"
unfolding digits
key_of_a_row = refl
