use Rattle.h1_link.proofs.Streams.{later_source_read, later_source_on, later_sink_write, later_sink_on}
use Rattle.h1_link.proofs.stream_laws.streams_only_add.Goals as goal

pub returns-clause-source : goal.returns-clause-source
returns-clause-source c = later_source_read

pub returns-clause-source_on : goal.returns-clause-source_on
returns-clause-source_on c = later_source_on

pub returns-clause-sink : goal.returns-clause-sink
returns-clause-sink c = later_sink_write

pub returns-clause-sink_on : goal.returns-clause-sink_on
returns-clause-sink_on c = later_sink_on
