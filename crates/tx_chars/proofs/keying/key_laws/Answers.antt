use Rattle.tx_chars.specs.LongestPrefix.{keys_are_longest}
use Rattle.tx_chars.specs.laws.AsciiKeys.{digits_are_decimal, keys_of_ascii, words_are_alphanumeric}
use Rattle.tx_chars.specs.laws.KeyLimit.{limit}
use Rattle.tx_chars.specs.laws.ScalarKeys.{keys_are_utf8}
use Rattle.tx_chars.proofs.WholeKeys.{keys_are_whole, empty_keys}
use Rattle.tx_chars.proofs.keying.key_laws.Goals as goal

pub returns-clause-longest : goal.returns-clause-longest
returns-clause-longest c = keys_are_longest

pub returns-clause-limit : goal.returns-clause-limit
returns-clause-limit c = limit

pub returns-clause-utf8 : goal.returns-clause-utf8
returns-clause-utf8 c = keys_are_utf8

pub returns-clause-whole : goal.returns-clause-whole
returns-clause-whole c = keys_are_whole

pub returns-clause-empty : goal.returns-clause-empty
returns-clause-empty c = empty_keys

pub returns-clause-ascii : goal.returns-clause-ascii
returns-clause-ascii c = keys_of_ascii

pub returns-clause-words : goal.returns-clause-words
returns-clause-words c = words_are_alphanumeric

pub returns-clause-digits : goal.returns-clause-digits
returns-clause-digits c = digits_are_decimal
