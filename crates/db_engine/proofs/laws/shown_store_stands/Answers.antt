use Rattle.db_engine.proofs.ShownStore.{it_is_led_to, it_stands, it_weighs, its_state_takes}
use Rattle.db_engine.proofs.laws.shown_store_stands.Goals as goal

pub returns-clause-state : goal.returns-clause-state
returns-clause-state c = it_is_led_to

pub returns-clause-stands : goal.returns-clause-stands
returns-clause-stands c = it_stands

pub returns-clause-weight : goal.returns-clause-weight
returns-clause-weight c = it_weighs

pub returns-clause-room : goal.returns-clause-room
returns-clause-room c = its_state_takes
