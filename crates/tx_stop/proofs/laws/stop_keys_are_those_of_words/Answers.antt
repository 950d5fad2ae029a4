use Rattle.tx_stop.proofs.KeysOfWords.{keys_of_words}
use Rattle.tx_stop.proofs.laws.stop_keys_are_those_of_words.Goals as goal

pub returns : goal.returns
returns c = λ base_letter mixed_case words key. keys_of_words base_letter mixed_case words key
