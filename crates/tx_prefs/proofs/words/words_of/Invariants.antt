use Rattle.std.proofs.Common.{◌≡◌, ◌++◌, length, map}
use denote.Text.{Utf8}
use denote.Shadow.{shadow}
use Rattle.std.specs.Str.{chars}
use Rattle.std.specs.String.{string_bytes}
use Rattle.tx_prefs.specs.Requests.{words}
use Rattle.tx_prefs.specs.RequestWords.{read_word, words_behind}
use Rattle.tx_prefs.proofs.words.words_of.Given as goal

abbrev pub invariant-loop-c : goal.invariant-loop-c
invariant-loop-c l = record {
  is_text : shadow (Utf8 l.rest);
  so_far : map read_word l.words.items ++ words_behind (read_word (string_bytes l.word)) (chars l.rest) ≡ words (chars l.text);
}

abbrev pub decreases-loop-c : goal.decreases-loop-c
decreases-loop-c l = length l.rest
