use Rattle.std.proofs.Common.{◌≤◌, ◌-◌, length}
use Rattle.ct_bytes.specs.Varints.{text_bytes}
use Rattle.tx_settings.specs.PrefsBytes.{is_text}
use Rattle.tx_settings.specs.laws.Standing.{AreRead}
use Rattle.tx_settings.proofs.word_reading.read_words.Given as goal

abbrev pub invariant-words : goal.invariant-words
invariant-words l = record {
  read : AreRead is_text text_bytes l.bytes l.start l.place l.words.items;
  few : length l.words.items ≤ l.count;
}

abbrev pub decreases-words : goal.decreases-words
decreases-words l = l.count - length l.words.items
