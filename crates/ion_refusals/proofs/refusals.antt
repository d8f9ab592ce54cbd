-- Each row of binary's table refuses, and each refusal has a row.
--
-- RefusalLaws: the refusals of the trace are those of the table (laws::refusals)
--   DecidedRows: each row refuses
--     OpenRuns, NumberRuns: what stands open behind octets is what the machine holds there
--     OnlyReasons: what stands in the way does so for few reasons
pub mod OpenRuns
pub mod NumberRuns
pub mod OnlyReasons
pub mod DecidedRows
pub mod RefusalLaws
