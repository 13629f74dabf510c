-- A name that opens every definition that a worked example runs through: `unfolding computing`, and the example is closed by computing it.
use Rattle.lists.specs.Bytes.{get_le, put_le}
use Rattle.lists.specs.Pick.{every, tally, rising, same}
use Rattle.lists.specs.Walk.{hop, walk, ending, walks}
use Rattle.lists.specs.Once.{mem, no_dup, all_below, once_each}
use Rattle.virtio.specs.Desc.{desc_at, put_desc}
use Rattle.virtio.specs.Layout.{used_at, need_one, need_two}
use Rattle.virtio.specs.Chain.{all_outputs, in_order, follow, no_indirect, list_of, expand, chain_at}
use Rattle.rules.specs.WellFormed.{size_ok, no_empty, every_head, broken, well_formed}
use Rattle.rules.specs.Step.{empty_all, move}
use Rattle.rules.specs.Calls.{fill, open_add, same_list, open_pop, open_peek, moves, run, can_pop, should_notify, set_dev_notify, available_desc}
use Rattle.rules.specs.New.{nexts_from, put_descs, new}
use Rattle.rules.specs.Owning.{own_broken, own_well_formed, add_own, own_new, poll, release, own_should_notify, own_set_dev_notify, own_view}

unfoldable pub computing : Unit {0}
unfolding get_le put_le every tally rising same hop walk ending walks mem no_dup all_below once_each desc_at put_desc used_at need_one need_two all_outputs in_order follow no_indirect list_of expand chain_at size_ok no_empty every_head broken well_formed empty_all move fill open_add same_list open_pop open_peek moves run can_pop should_notify set_dev_notify available_desc nexts_from put_descs new own_broken own_well_formed add_own own_new poll release own_should_notify own_set_dev_notify own_view
computing = tt
