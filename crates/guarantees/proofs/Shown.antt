-- Every guarantee, by its proof. Assumes nothing.
use Rattle.guarantees.specs.FirstPoint as first
use Rattle.guarantees.specs.SecondPoint as second
use Rattle.guarantees.specs.ThirdPoint as third
use Rattle.guarantees.specs.Published as published
use Rattle.guarantees.specs.Symbols as symbols
use Rattle.guarantees.specs.Exploration as exploration
use Rattle.guarantees.specs.FirstLeaks as leaks
use Rattle.guarantees.specs.OneEncoding as canonical
use Rattle.guarantees.specs.Witnesses as witnesses
use Rattle.guarantees.specs.WholeLog as log
use Rattle.guarantees.specs.SavedBytes as saved
use Rattle.verifier.proofs.Growing as growing
use Rattle.verifier.proofs.SecondPoint as verifier
use Rattle.verifier.proofs.Corresponding as calls
use Rattle.enforcer.proofs.ForAll as for-all
use Rattle.enforcer.proofs.ThirdPoint as enforcer
use Rattle.enforcer.proofs.Corresponding as offers
use Rattle.published.proofs.SourceLaws as source
use Rattle.published.proofs.Corollary as corollary
use Rattle.published.proofs.Estimators as estimators
use Rattle.published.proofs.Propositions as propositions
use Rattle.published.proofs.WordLaws as word_laws
use Rattle.published.proofs.SoundVerdicts as sound-verdicts
use Rattle.published.proofs.SafeOutputs as safe-outputs
use Rattle.explore.proofs.Configured as configured
use Rattle.explore.proofs.Counting as counting
use Rattle.waiting.proofs.Alike as same-verdicts
use Rattle.waiting.proofs.Calling as calling
use Rattle.waiting.proofs.Waiting as waiting
use Rattle.leaks.proofs.Streaming as streaming
use Rattle.leaks.proofs.Parts as parts
use Rattle.leaks.proofs.Agreed as agreed-leaks
use Rattle.canonical.proofs.OneForm as one_form
use Rattle.canonical.proofs.Compared as compared
use Rattle.canonical.proofs.Calls as writings
use Rattle.witness.specs.Answers.{Usable, InReachOf, IsWitness}
use Rattle.witness.proofs.WholeTrace as whole-trace
use Rattle.witness.proofs.Answering as answering
use Rattle.witness.proofs.Calling as called
use Rattle.monitor.proofs.LogOutput as log_output
use Rattle.monitor.proofs.OneOutput as one-log-output
use Rattle.monitor.proofs.Idle as idle
use Rattle.gateway.specs.SavedCalls.{witness_said, check_said}
use Rattle.gateway.proofs.SavedPoints as saved-points
use Rattle.gateway.proofs.SavedWaits as saved-explorations
use Rattle.gateway.proofs.SavedLeaks as saved-leaks
use Rattle.gateway.proofs.SavedForms as saved-forms
use Rattle.gateway.proofs.SavedWitnesses as saved-witnesses
use Rattle.guarantees.proofs.Answers.{decode_answers, fresh_answers, accept_answers, accept_by_answers, start_answers, offer_answers, advance_answers}
use Rattle.guarantees.proofs.Explorations as explorations
use Rattle.guarantees.proofs.FirstLeaks as first_leaks
use Rattle.guarantees.proofs.OneEncoding as one-encoding
use Rattle.guarantees.proofs.Witnesses as witness-rows
use Rattle.guarantees.proofs.Frames as frames

-- the first point
pub every_decode : first.EveryDecode
every_decode = decode_answers

pub every_fresh : first.EveryFresh
every_fresh = fresh_answers

pub every_accept : first.EveryAccept
every_accept = accept_answers

pub every_accept_by : first.EveryAcceptBy
every_accept_by = accept_by_answers

pub every_start : first.EveryStart
every_start = start_answers

pub every_offer : first.EveryOffer
every_offer = offer_answers

pub every_explore : first.EveryExplore
every_explore t h f budget = explorations.explore_answers t h f _

pub every_first_leak : first.EveryFirstLeak
every_first_leak = first_leaks.first_leak_answers

pub every_begin : first.EveryBegin
every_begin = first_leaks.begin_answers

pub every_search : first.EverySearch
every_search = first_leaks.search_answers

pub every_canonical : first.EveryCanonical
every_canonical = one-encoding.canonical_answers

pub every_witness : first.EveryWitness
every_witness = witness-rows.witness_answers

pub every_check : first.EveryCheck
every_check = witness-rows.check_answers

-- the second point
pub second_point : second.SecondPoint
second_point = verifier.second_point

pub one_estimator : second.OneEstimator
one_estimator = growing.grown_unique

-- the third point
pub third_point : third.ThirdPoint
third_point = enforcer.third_point

pub sure_exactly : third.SureExactly
sure_exactly = for-all.unsafe_exactly

pub one_enforcer : third.OneEnforcer
one_enforcer = enforcer.same_history

-- by the published definitions
pub corollary_1 : published.Corollary1
corollary_1 = corollary.corollary_1_all

pub proposition_1 : published.Proposition1
proposition_1 = propositions.proposition_1

pub proposition_2 : published.Proposition2
proposition_2 = propositions.proposition_2

pub by_words : published.ByWords
by_words = word_laws.by_words

pub proposition_3 : published.Proposition3
proposition_3 = estimators.proposition_3

pub proposition_4 : published.Proposition4
proposition_4 p secret μ = estimators.proposition_4 p secret μ

pub verifier_gamma : published.VerifierGamma
verifier_gamma = estimators.verifier_gamma

pub definition_6 : published.Definition6
definition_6 = sound-verdicts.definition_6

pub second_point_published : published.SecondPointPublished
second_point_published = source.second_point_published

pub safe_exactly : published.SafeExactly
safe_exactly = safe-outputs.all_published

pub third_point_published : published.ThirdPointPublished
third_point_published = safe-outputs.third_point_published

pub definition_13 : published.Definition13
definition_13 = safe-outputs.definition_13

-- symbols
pub calls_alike : symbols.CallsAlike
calls_alike t h h' same f = calls.alike_calls t h h' same.like same.secret same.k f

pub offers_alike : symbols.OffersAlike
offers_alike notion t h h' same f = offers.alike_offers notion t h h' f same.like same.secret same.k

pub calls_spelled : symbols.CallsSpelled
calls_spelled t h h' x f = calls.distinct_calls t h h' x.distinct x.without x.same x.secret x.k x.small f

pub offers_spelled : symbols.OffersSpelled
offers_spelled notion t h h' x f = offers.distinct_offers notion t h h' f x.distinct x.without x.same x.secret x.k x.small

-- the exploration before delivery
pub one_exploration : exploration.OneExploration
one_exploration = explorations.one_exploration

pub spent_exactly : exploration.SpentExactly
spent_exactly = counting.more_than_number

pub configurations_are : exploration.ConfigurationsAre
configurations_are = configured.configurations_are

pub verdicts_by_configuration : exploration.VerdictsByConfiguration
verdicts_by_configuration = same-verdicts.same_verdict

pub accepted_lists : exploration.AcceptedLists
accepted_lists = calling.accepted_lists

pub offered_is_accepted : exploration.OfferedIsAccepted
offered_is_accepted = calling.calls_taken

pub reached_by_calls : exploration.ReachedByCalls
reached_by_calls = calling.reached_by_calls

pub exploration_waits : exploration.ExplorationWaits
exploration_waits = waiting.exploration_waits

-- the first leak of a long log
pub one_first_leak : leaks.OneFirstLeak
one_first_leak = first_leaks.one_first_leak

pub every_part : leaks.EveryPart
every_part = first_leaks.every_part

pub part_by_calls : leaks.PartByCalls
part_by_calls = parts.accepted_by_calls

pub part_by_log : leaks.PartByLog
part_by_log = first_leaks.part_by_log

pub later_bytes : leaks.LaterBytes
later_bytes = first_leaks.later_bytes

pub block_after_block : leaks.BlockAfterBlock
block_after_block = streaming.search_promise

pub refused_search : leaks.RefusedSearch
refused_search = streaming.refused_search

pub leak_past_count : leaks.LeakPastCount
leak_past_count = agreed-leaks.past_finding

-- one encoding for one automaton
pub one_writing : canonical.OneWriting
one_writing = one-encoding.one_writing

pub written_decodes : canonical.WrittenDecodes
written_decodes = writings.call_decodes

pub written_in_form : canonical.WrittenInForm
written_in_form = writings.call_in_form

pub one_in_form : canonical.OneInForm
one_in_form = one-encoding.one_in_form

pub same_table : canonical.SameTable
same_table = writings.call_table

pub written_again : canonical.WrittenAgain
written_again = writings.call_again

pub again_too_small : canonical.AgainTooSmall
again_too_small = writings.call_again_short

pub equal_bytes : canonical.EqualBytes
equal_bytes = one-encoding.equal_bytes

pub equal_meanings : canonical.EqualMeanings
equal_meanings = compared.same_exactly

pub rising : canonical.Rising
rising = one_form.form_rises

pub every_space : canonical.EverySpace
every_space = one-encoding.every_space

pub longer_refused : canonical.LongerRefused
longer_refused = one-encoding.longer_refused

-- the run that excuses the system
pub grown_writing : witnesses.GrownWriting
grown_writing t h f j s cs e fresh calls = called.called_writing t h f j s cs e fresh calls

pub grown_checking : witnesses.GrownChecking
grown_checking t h f j s cs e fresh calls = called.called_checking t h f j s cs e fresh calls

pub odd_is_no : witnesses.OddIsNo
odd_is_no t h s notion number k start bytes said u x =
    answering.odd_no (Usable t h s) (InReachOf h s number k) (IsWitness t h s notion number k start) bytes u said x

pub far_is_no : witnesses.FarIsNo
far_is_no t h s notion number k start bytes said u x =
    answering.far_no (Usable t h s) (InReachOf h s number k) (IsWitness t h s notion number k start) bytes u said x

pub written_passes : witnesses.WrittenPasses
written_passes t h s notion number k output start pairs after said =
    answering.written_checked (Usable t h s) (InReachOf h s number k) (IsWitness t h s notion number k) output start pairs after said

pub from_initial : witnesses.FromInitial
from_initial = whole-trace.whole_starts

pub end_of_run : witnesses.EndOfRun
end_of_run notion p secret trace k reached = whole-trace.witness_end p secret trace k reached notion

pub every_end : witnesses.EveryEnd
every_end notion p secret trace k reached = whole-trace.every_clear p secret trace k reached notion

pub none_where_sure : witnesses.NoneWhereSure
none_where_sure notion p secret trace = answering.sure_no_witness notion p secret trace

pub verdict_by_witness : witnesses.VerdictByWitness
verdict_by_witness notion p secret trace = answering.words_by_witness notion p secret trace

pub verdict_by_answers : witnesses.VerdictByAnswers
verdict_by_answers t h f j s cs e fresh calls = called.called_verdict t h f j s cs e fresh calls

pub told_by_answers : witnesses.ToldByAnswers
told_by_answers t h f j s cs e fresh calls byte told m accepts = called.called_told t h f j s cs e fresh calls byte told m accepts

pub opening_by_answers : witnesses.OpeningByAnswers
opening_by_answers = called.opening_told

-- a whole log
pub prints_exactly : log.PrintsExactly
prints_exactly = log_output.prints_exactly

pub one_output : log.OneOutput
one_output input a b = one-log-output.one_output input

pub idle_exactly : log.IdleExactly
idle_exactly input t h = idle.idle_exactly

pub every_advance : log.EveryAdvance
every_advance = advance_answers

-- saved bytes
pub decode_saved : saved.DecodeSaved
decode_saved = frames.decode_saved

pub fresh_saved : saved.FreshSaved
fresh_saved = frames.fresh_saved

pub accept_saved : saved.AcceptSaved
accept_saved = frames.accept_saved

pub start_saved : saved.StartSaved
start_saved = frames.start_saved

pub offer_saved : saved.OfferSaved
offer_saved = frames.offer_saved

pub explore_saved : saved.ExploreSaved
explore_saved = frames.explore_saved

pub explore_by_budget : saved.ExploreByBudget
explore_by_budget = saved-explorations.saved_explore

pub explored_bytes : saved.ExploredBytes
explored_bytes = saved-explorations.explored_back

pub saved_waits : saved.SavedWaits
saved_waits = saved-explorations.saved_waits

pub explore_past_count : saved.ExplorePastCount
explore_past_count = saved-explorations.explore_past_count

pub first_leak_saved : saved.FirstLeakSaved
first_leak_saved = frames.first_leak_saved

pub first_leak_by_secrets : saved.FirstLeakBySecrets
first_leak_by_secrets = saved-leaks.saved_leak

pub first_leak_in_bytes : saved.FirstLeakInBytes
first_leak_in_bytes = saved-leaks.leak_back

pub first_leak_past_count : saved.FirstLeakPastCount
first_leak_past_count = saved-leaks.saved_leak_past_count

pub canonical_saved : saved.CanonicalSaved
canonical_saved = frames.canonical_saved

pub witness_saved : saved.WitnessSaved
witness_saved = frames.witness_saved

pub check_saved : saved.CheckSaved
check_saved = frames.check_saved

pub saved_witness : saved.SavedWitness
saved_witness t header further before lent s told cs e fresh calls notion secret k output run answer after out known size x =
    answering.exact_writing (Unit {0}) _ _ output tt (witness_said answer out) after
    (saved-witnesses.saved_witness t header further before lent s told cs e fresh calls notion secret k output run answer after out known size x)

pub saved_check : saved.SavedCheck
saved_check t header further before lent s told cs e fresh calls notion secret k start pairs valid answer out known size x =
    answering.exact_checking (Unit {0}) _ _ pairs tt (check_said answer out)
    (saved-witnesses.saved_check t header further before lent s told cs e fresh calls notion secret k start pairs valid answer out known size x)

pub witness_in_bytes : saved.WitnessInBytes
witness_in_bytes = saved-witnesses.witness_back

pub check_in_bytes : saved.CheckInBytes
check_in_bytes = saved-witnesses.check_back

pub saved_passes : saved.SavedPasses
saved_passes = saved-witnesses.written_passes

pub canonical_in_bytes : saved.CanonicalInBytes
canonical_in_bytes = saved-forms.canonical_back

pub one_canonical : saved.OneCanonical
one_canonical encoding output lent a b after after' out out' = saved-forms.one_canonical encoding output lent

pub canonical_by_output : saved.CanonicalByOutput
canonical_by_output = saved-forms.canonical_by_output

pub canonical_as_decode : saved.CanonicalAsDecode
canonical_as_decode = one-encoding.canonical_as_decode

pub canonical_decodes : saved.CanonicalDecodes
canonical_decodes = saved-forms.canonical_decodes

pub fresh_by_secrets : saved.FreshBySecrets
fresh_by_secrets = saved-points.saved_fresh

pub start_by_secrets : saved.StartBySecrets
start_by_secrets = saved-points.saved_start

pub encoded_second_point : saved.EncodedSecondPoint
encoded_second_point = saved-points.encoded_second_point

pub saved_second_point : saved.SavedSecondPoint
saved_second_point = saved-points.saved_second_point

pub saved_third_point : saved.SavedThirdPoint
saved_third_point = saved-points.saved_third_point

pub saved_third_point_published : saved.SavedThirdPointPublished
saved_third_point_published t header notion further before s cs e start offers =
    safe-outputs.promise_published _ t _ _ _ _ (saved-points.saved_third_point t header notion further before s cs e start offers)

pub accept_within : saved.AcceptWithin
accept_within = saved-points.accept_within

pub offer_within : saved.OfferWithin
offer_within = saved-points.offer_within

pub fresh_past_count : saved.FreshPastCount
fresh_past_count = saved-points.past_fresh

pub start_past_count : saved.StartPastCount
start_past_count = saved-points.past_start
