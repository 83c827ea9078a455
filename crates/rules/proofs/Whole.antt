-- Opens every definition of the rules at once, for statements that compute: one line a file of specs/.
use mathlib.Core.List as list
use Rattle.words.specs.Basics.{ℕ}
use Rattle.words.specs.Reasons as reasons
use Rattle.rules.specs.Lists as lists
use Rattle.rules.specs.Octets as octets
use Rattle.rules.specs.Units as units
use Rattle.rules.specs.Tables as tables
use Rattle.rules.specs.Layout as layout
use Rattle.rules.specs.Frame as frame
use Rattle.rules.specs.Message as message
use Rattle.rules.specs.Exists as exists
use Rattle.rules.specs.Faults as faults
use Rattle.rules.specs.Sound as sound
use Rattle.rules.specs.Recipients as recipients
use Rattle.rules.specs.Payloads as payloads
use Rattle.rules.specs.Sessions as sessions
use Rattle.rules.specs.Commands as commands
use Rattle.rules.specs.Copy as copy
use Rattle.rules.specs.Host as host
use Rattle.rules.specs.Carry as carry
use Rattle.rules.specs.Calls as calls
use Rattle.rules.specs.History as history
use Rattle.rules.specs.Sheet as sheet

unfoldable whole_of_lists : ℕ
unfolding lists.◌&◌ lists.ask lists.count lists.any lists.all lists.keep lists.first_of lists.has
whole_of_lists = 0

unfoldable whole_of_octets : ℕ
unfolding octets.bit octets.word octets.octets octets.flag octets.number octets.joined octets.ignore_top octets.over octets.octet_string
whole_of_octets = 0

unfoldable whole_of_units : ℕ
unfolding units.unit_number units.unit_at units.three_octets units.unit_octets units.insert units.ordered units.rising units.once units.without
whole_of_units = 0

unfoldable whole_of_tables : ℕ
unfolding tables.records tables.is_free tables.blank tables.used tables.some_free tables.matches tables.addressed tables.put tables.clear tables.change
whole_of_tables = 0

unfoldable whole_of_tables_2 : ℕ
unfolding tables.written
whole_of_tables_2 = 0

unfoldable whole_of_layout : ℕ
unfolding layout.in_set layout.among layout.low_bits layout.up_to layout.device_record layout.part_is layout.to_group layout.group_record layout.member_record
whole_of_layout = 0

unfoldable whole_of_layout_2 : ℕ
unfolding layout.from_any_device layout.from_any_unit layout.at_any_interface layout.session_record
whole_of_layout_2 = 0

unfoldable whole_of_frame : ℕ
unfolding frame.every_table frame.also frame.nothing frame.changed
whole_of_frame = 0

unfoldable whole-of_message : ℕ
unfolding message.data_length_of message.message_type_of message.fields message.payload message.sender message.destination message.response
whole-of_message = 0

unfoldable whole-of_message_2 : ℕ
unfolding message.length_fits message.data_length_fits message.type_fits message.reads message.reading message.header message.answering message.reply
whole-of_message_2 = 0

unfoldable whole_of_exists : ℕ
unfolding exists.admitted exists.has_unit exists.unit_exists exists.device_exists exists.may_command exists.has_rights exists.group_exists
whole_of_exists = 0

unfoldable whole_of_faults : ℕ
unfolding faults.fault faults.add_fault reasons.faultless
whole_of_faults = 0

unfoldable whole_of_sound : ℕ
unfolding sound.whole_records sound.address_fits sound.device_in_range sound.device_fits sound.group_fits sound.bind_fits
whole_of_sound = 0

unfoldable whole_of_sound_2 : ℕ
unfolding sound.member_fits sound.session_fits sound.fits sound.distinct sound.sound_table sound.sound
whole_of_sound_2 = 0

unfoldable whole_of_recipients : ℕ
unfolding recipients.members_of recipients.bind_matches recipients.reached recipients.bound recipients.recipients
whole_of_recipients = 0

unfoldable whole_of_payloads : ℕ
unfolding payloads.read_command payloads.bind_command payloads.group_command payloads.command payloads.bind_of payloads.wanted payloads.member_of
whole_of_payloads = 0

unfoldable whole_of_payloads_2 : ℕ
unfolding payloads.group_named
whole_of_payloads_2 = 0

unfoldable whole_of_sessions : ℕ
unfolding sessions.in_session sessions.alters sessions.closing sessions.chosen sessions.entries_by sessions.listing
whole_of_sessions = 0

unfoldable whole_of_commands : ℕ
unfolding commands.addition commands.removal commands.naming commands.creation commands.smallest commands.new_group commands.info_head commands.info
whole_of_commands = 0

unfoldable whole_of_commands_2 : ℕ
unfolding commands.group_info commands.rights_fit commands.payload_fits commands.judge commands.on_ok commands.done commands.reply_payload
whole_of_commands_2 = 0

unfoldable whole_of_commands_3 : ℕ
unfolding commands.opening commands.session_or commands.explained
whole_of_commands_3 = 0

unfoldable whole-of_copy : ℕ
unfolding copy.copied copy.copy_fits copy.copy
whole-of_copy = 0

unfoldable whole-of_host : ℕ
unfolding host.settled host.admitting host.admission host.admit host.names_device host.taking host.releasing host.dismissal host.release
whole-of_host = 0

unfoldable whole-of_carry : ℕ
unfolding carry.old_fits carry.old_sound carry.old_has_unit carry.old_unit_exists carry.old_has_rights carry.carried carry.carried_table carry.carry_outcome
whole-of_carry = 0

unfoldable whole-of_carry_2 : ℕ
unfolding carry.carried_over
whole-of_carry_2 = 0

unfoldable of_calls : ℕ
unfolding calls.roomy calls.to_many calls.asking calls.way_to calls.way_on calls.way calls.answered calls.handled calls.forwarded calls.follow
of_calls = 0

unfoldable whole-of_calls_2 : ℕ
unfolding calls.message
whole-of_calls_2 = 0

unfoldable whole_of_history : ℕ
unfolding history.said history.left history.after history.history history.octets_only history.granted history.has_page history.silence history.lines
whole_of_history = 0

unfoldable whole_of_history_2 : ℕ
unfolding history.asked history.entries history.stand history.standing history.strikes history.spares history.reaches history.linked history.counted
whole_of_history_2 = 0

unfoldable whole_of_history_3 : ℕ
unfolding history.existing history.member_count history.free_table history.free_tables history.bind_said history.bind_named history.group_said
whole_of_history_3 = 0

unfoldable whole_of_history_4 : ℕ
unfolding history.member_said history.member_named history.filled_in history.source_said history.interface_said history.made_for
whole_of_history_4 = 0

unfoldable whole_of_sheet : ℕ
unfolding sheet.bind_count sheet.entries_read sheet.read_of
whole_of_sheet = 0

unfoldable tables-and_messages : ℕ
unfolding whole_of_lists whole_of_octets whole_of_units whole_of_tables whole_of_tables_2 whole_of_layout whole_of_layout_2 whole_of_frame whole-of_message whole-of_message_2 whole_of_exists whole_of_sound
tables-and_messages = 0

unfoldable commands_and-calls : ℕ
unfolding whole_of_faults whole_of_sound_2 whole_of_recipients whole_of_payloads whole_of_payloads_2 whole_of_sessions whole_of_commands whole_of_commands_2 whole_of_commands_3 whole-of_copy whole-of_carry whole-of_carry_2
commands_and-calls = 0

unfoldable pub whole : ℕ
unfolding list.flat_map tables-and_messages commands_and-calls whole-of_host of_calls whole-of_calls_2 whole_of_history whole_of_history_2 whole_of_history_3 whole_of_history_4 whole_of_sheet
whole = 0
